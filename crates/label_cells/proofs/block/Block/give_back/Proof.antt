-- `give_back` makes room of all that a block owns, and hands it to the allocator with its token. Assumes `Logic`.
use Rattle.std.proofs.Common.{◌≡◌, ℕ, ◌*◌, ◌<◌, ◌≤◌, ◌^◌, List, [], ◌∷◌, ◌++◌, length, refl, sym, ap, ◌∙◌, subst, arith, T, w64}
use mir.Syntax.{Ty, Fn, ty_unit}
use mir.MapTy.{inst_fn}
use mir.Val.{Val, vint, vptr, vunit, has_ty, WT}
use base.Logic.{SProp, id⊢, never}
use base.Fml.{Lft, Share, ftrue, froom, flft, Incl-trans}
use prog.Memory.{align, capped}
use prog.Capped.{capped_fits}
use prog.Wp.{Env, WpFn}
use contract.BorrowLft.{◌⊑◌}
use contract.Monad.{fact}
use contract.Running.{tables}
use types.Kit.{‵, raw, ◌⊛◌, given, later, prop, at_ret, ◌$◌, ◌∵◌, !, qed, by, move, keep, drop, group, use1, use2, split, join, learn, regoal, rewrite, fsplit, fsplit3, fjoin, feq_i, flt_l, await}
use types.Part.{whole, sub}
use types.Run.{stop, fld, bin, unit_lit, of_opd, no_more, and_then, first, blocks, exec, returns, enter, size_word, align_word}
use types.ByLocal.{alloc_all, pass_all, free_all, look_at, get, get_in, sets, lands_last, is, env}
use denote.RattleType.{owns}
use denote.RawPtr.{Ptr, block_ptr, in_a_block, in_block}
use denote.Signature.{types_at}
use denote.Steps.{nothing, heard}
use denote.Triple.Call.{calls_at_last}
use denote.Triple.Clauses.{Ended}
use denote.Triple.Entry.{alive}
use denote.Triple.Walked.{Stays, stay_dropped, walk_of, Goes-dropped}
use Rattle.std.specs.Allocator.{block_with_items}
use Rattle.core.proofs.alloc.Calls.{Al, seen, token, Gives, at_gives, Gives-goes, Gives-Gives, Goes-blank}
use Rattle.core.proofs.alloc.Shapes.{after}
use Rattle.core.proofs.atomic.Steps.{fm}
use Rattle.core.proofs.slots.Leases.{uncapped, block_ty, block_size, block_align}
use Rattle.std.proofs.raw_atomic.Walks.{proved_at, leaves}
use Rattle.std_alloc.proofs.VecSteps.El.{El, R, sz, elτ, args}
use Rattle.label_cells.specs.inside.Blocks.{IsBlock}
use Rattle.label_cells.specs.inside.Ownership.{block_owned}
use Rattle.label_cells.specs.contracts.block.Block.give_back as give_back
use Rattle.label_cells.specs.contracts.block.Block.give_back.Key.{name as #self}
use Rattle.label_cells.proofs.BlockSteps.{element, start_val, start_told, mark_val, mark_told, slot_at, emptied}
use Rattle.label_cells.proofs.block.Block.give_back.Statement.{statement}
use Rattle.label_cells.proofs.block.Block.give_back.Code as compiled

pub give_back_spec : {M : Type 1} → statement M
give_back_spec 𝓤 𝓛 𝓜 𝓡 wired X A LX LA g d dd met md =
    let H = 𝓛.H in
    let Z : Al = record { row = A; laws = LA; g = g; d = d; drops = dd } in
    let E : El = record { row = X; laws = LX; al = Z } in
    let ended : Ended = give_back.ended X A g d dd in
    let clauses = give_back.clauses X A g d dd 𝓛 𝓜.mem 𝓡.returns in
    let fn : Fn = inst_fn (args E) compiled.function in
    let params = ended.signature.params in let kept = ended.kept in
    let stayed : Stays params kept =
    (stay_dropped (slot_at 0 params) kept.0, (stay_dropped (slot_at 1 params) kept.1.0, (stay_dropped (slot_at 2 params) kept.1.1.0, (stay_dropped (slot_at 3 params) kept.1.1.1.0, tt)))) in
    let C = (tables 𝓤 H 𝓜 𝓡 𝓡.env).C in
    let Λ = (tables 𝓤 H 𝓜 𝓡 𝓡.env).Λ in
    proved_at 𝓛 ended stayed clauses 𝓜 𝓡 (
      Goes-blank 𝓛 3 (slot_at 0 params) kept.0 (λ κs x f. tt),
      (
        Goes-dropped 𝓛 3 (slot_at 1 params) kept.1.0 (λ κs x f. refl),
        (Goes-dropped 𝓛 3 (slot_at 2 params) kept.1.1.0 (λ κs x f. refl), (Goes-dropped 𝓛 3 (slot_at 3 params) kept.1.1.1.0 (λ κs x f. refl), tt)),
      ),
    )
    (#self (args E)) fn (compiled.unfolded 𝓤 H 𝓜 𝓡 wired (X, (A, tt)) d dd) (λ z are.
    let Post : Val → SProp 𝓤 = (walk_of 𝓛 ended stayed clauses).post z in
    let κ : Lft = z.0.0.0 in let q : Share = z.0.1.0 in
    let κX : Lft = z.0.0.1.0 in let κA : Lft = z.0.0.1.1.0 in
    let a = z.0.3 in let owner = a.0 in let h = a.1.0.now in let at = a.1.0.ref_ptr in let start = a.1.1.0 in let n = a.1.1.1.0 in
    let xs = owner.values in let s = sz E in let al : ℕ = capped (align (elτ E)) in let block : Ty = block_ty (element E) n in
    let Held : Type 0 = IsBlock start h n xs owner in let Fits : Type 0 = length xs ≤ n in
    qed 𝓛 ((raw (alive 𝓛 ended.signature z.0.0 z.0.1) ⊛ ‵ (owns (types_at params z.0.0) a z.0.4))
    ∷ (raw (fact 𝓤 (κX ⊑ X.lives)) ⊛ raw (fact 𝓤 (κA ⊑ A.lives)) ⊛ raw (fact 𝓤 Held) ⊛ raw (fact 𝓤 Fits)) ∷ []) ∵
    move ! (1 ∷ []) $ split ! $ drop ! $ split ! $ heard ! (κA ⊑ A.lives) (λ within. split ! $ heard ! Held (λ held. heard ! Fits (λ fit.
    split ! $ move ! (1 ∷ []) $ fsplit ! $ fsplit ! $ drop ! $ move ! (1 ∷ []) $ fsplit ! $ fsplit ! $ drop ! $ keep ! (2 ∷ 0 ∷ 3 ∷ []) $
    -- [the block; the handle's `&`; the tokens]
    rewrite ! 0 (λ (w : A.Denot × Ptr × ℕ). ‵ (block_owned (token Z w.0) (R E) w.1 w.2 xs)) (λ i. (held.1 i, held.0 i, held.2 i)) refl $
    fsplit ! $ flt_l ! (λ small. in_a_block ! start.at (λ r. in_block r (block_with_items (token Z h) (R E) r (length xs) n xs)) (id⊢ 𝓤 (never 𝓤)) (λ b o placed.
    let bytes : n * s < 2 ^ 64 = omega arith in let fits : n * capped s < 2 ^ 64 = subst (λ (k : ℕ). k < 2 ^ 64) (sym (uncapped n s bytes)) bytes in
    let y = at_gives Z 𝓛 𝓜.mem 𝓡.returns κ q at h b o (n * s) al block in
    fsplit3 ! $ use2 𝓛 (‵ (froom block b o)) (emptied E 𝓛 b o (length xs) n xs fit) $ move ! (3 ∷ []) $
    use1 𝓛 (‵ (flft κ q) ⊛ (‵ (flft κX z.0.1.1.0) ⊛ ‵ (flft κA z.0.1.1.1.0) ⊛ ‵ ftrue)) (id⊢ 𝓤 _) $ split ! $ move ! (2 ∷ 3 ∷ 4 ∷ []) $
    -- [the room; the token of the block; the handle's `&`; its token; the other tokens]
    use1 𝓛 (‵ (froom block b o)) (id⊢ 𝓤 _) $ move ! (2 ∷ []) $ use1 𝓛 (‵ (seen Z κ at h)) (id⊢ 𝓤 _) $ move ! (1 ∷ 2 ∷ 0 ∷ []) $
    regoal ! (λ (us : List Val). prop (WpFn 𝓤 H C Λ fn us Post))
    (λ i. mark_told z.0.4.0 are.0.0 i ++ (are.1.0.0 i ++ ((start_told start.at z.0.4.1.1.0 are.1.1.0 ∙ ap (λ (r : Ptr). start_val r ∷ []) placed) i ++ (are.1.1.1.0.0 i ++ [])))) refl $
    enter ! C Λ fn (mark_val ∷ vptr at.0 at.1 ∷ start_val (block_ptr b o) ∷ vint w64 n ∷ []) Post $
    alloc_all ! (λ l. pass_all ! refl ((tt, (tt, tt)), ((tt, tt), ((tt, (tt, tt)), ((tt, record { fits = are.1.1.1.0.1 }), tt)))) $
    let En : Env 𝓤 H = env fn.locals l in
    first ! $ blocks ! $
    sets ! (of_opd ! (get_in ! (fld ! refl (stop !)) (sub ! 0 refl (whole !)))) refl (tt, tt) $
    sets ! (is ! (bin ! (get ! refl) (size_word !) (record { fits = fits })) (ap (vint w64) (uncapped n s bytes))) refl (tt, record { fits = bytes }) $
    group ! 4 $ use1 𝓛 (raw ((Gives Z 𝓛 𝓜.mem 𝓡.returns).pre y))
    (Gives-goes Z 𝓛 𝓜.mem 𝓡.returns κ q at h (Incl-trans z.0.2.0 within) b o (n * s) al block (block_size (element E) n bytes) (block_align (element E) n) bytes (capped_fits (align (elτ E)))) $
    calls_at_last ! (fm 𝓛 𝓜 𝓡) (Gives Z 𝓛 𝓜.mem 𝓡.returns) (met.deallocate dd) y
    (and_then ! (get ! refl) (and_then ! (get ! refl) (and_then ! (get ! refl) (and_then ! (align_word !) (no_more !))))) (λ v.
    use1 𝓛 (later (given (v ≡ vunit) (‵ (flft κ q)))) (Gives-Gives Z 𝓛 𝓜.mem 𝓡.returns κ q at h b o (n * s) al block v) $ await ! tt $ learn ! (λ is_unit.
    lands_last ! refl (subst (λ (u : Val). T (has_ty ty_unit u) × WT u) (sym is_unit) (tt, tt)) $ exec ! C Λ En (after 1 fn.body) (at_ret En Post) $
    sets ! (of_opd ! (unit_lit !)) refl (tt, tt) $ returns ! (look_at ! 0 refl) $ free_all ! refl $
    join ! $ feq_i ! (List Val) (vunit ∷ []) (vunit ∷ []) refl $
    nothing ! $ nothing ! $ nothing ! $ fjoin ! $ nothing ! $ fjoin ! $ nothing ! $ fjoin ! $ nothing ! $ fjoin ! $ move ! (3 ∷ 0 ∷ 2 ∷ 1 ∷ []) $
    by ! (leaves 𝓛 ended stayed clauses z vunit tt (tt, (tt, (tt, (tt, tt)))) (tt, (tt, (tt, (tt, tt))))))))))))))
