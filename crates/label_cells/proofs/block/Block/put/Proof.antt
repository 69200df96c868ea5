-- `put` writes a value into the first place of the room. Assumes `Logic`.
use Rattle.std.proofs.Common.{◌≡◌, ℕ, ◌+◌, ◌*◌, ◌<◌, ◌^◌, List, [], ◌∷◌, ◌++◌, length, refl, sym, ◌∙◌, arith, w64}
use base.Fraction.{full_share}
use mir.Syntax.{Fn}
use mir.MapTy.{inst_fn}
use mir.Val.{Val, vint, vptr, vunit}
use base.Logic.{SProp, emp, id⊢, never}
use base.Fml.{Lft, Share, ftrue, fat, flft, froom}
use prog.Wp.{Env, WpFn}
use contract.BorrowLft.{◌⊑◌}
use contract.Monad.{fact, fact_i}
use contract.Running.{tables}
use types.Kit.{‵, raw, ◌⊛◌, prop, at_ret, ◌$◌, ◌∵◌, !, qed, by, move, keep, drop, use0, use1, use3, split, join, regoal, rewrite, fsplit, fsplit3, fjoin, fjoin3, feq_i, flt_i, flt_l}
use types.Part.{whole, sub}
use types.Run.{stop, fld, init, bin, size_lit, unit_lit, of_opd, assigns_last, first, blocks, exec, returns, enter}
use types.ByLocal.{alloc_all, pass_all, free_all, look_at, get, get_in, through, sets, take_at, give_at, env}
use denote.RattleType.{owns}
use denote.Param.{layout}
use denote.RawPtr.{Ptr, in_a_block, in_block}
use denote.Signature.{plain, types_at}
use denote.Steps.{nothing, heard, opens, closes}
use denote.Triple.Clauses.{Ended}
use denote.Triple.Entry.{alive}
use denote.Triple.Walked.{Stays, stay_dropped, stay_ref, walk_of, Goes-dropped, Goes-ref}
use Rattle.std.specs.Allocator.{block_with_items}
use Rattle.core.proofs.alloc.Calls.{Al, token}
use Rattle.core.proofs.alloc.Shapes.{after}
use Rattle.core.proofs.ptr.Rows.{times_below, one_below}
use Rattle.std.proofs.raw_atomic.Walks.{proved_at, leaves}
use Rattle.std_alloc.proofs.VecSteps.El.{El, R, sz, elτ, el_lawful, args}
use Rattle.label_cells.specs.inside.Blocks.{Becomes}
use Rattle.label_cells.specs.inside.Ownership.{block_owned}
use Rattle.label_cells.specs.contracts.block.Block.put as put
use Rattle.label_cells.specs.contracts.block.Block.put.Key.{name as #self}
use Rattle.label_cells.proofs.BlockSteps.{St, Bl, start_val, start_told, start_good, alone, slot_at, Parts, Left, next_out, next_in}
use Rattle.label_cells.proofs.block.Block.put.Statement.{statement}
use Rattle.label_cells.proofs.block.Block.put.Code as compiled

pub put_spec : {M : Type 1} → statement M
put_spec 𝓤 𝓛 𝓜 𝓡 wired X A LX LA g d dd met md =
    let H = 𝓛.H in
    let Z : Al = record { row = A; laws = LA; g = g; d = d; drops = dd } in
    let E : El = record { row = X; laws = LX; al = Z } in
    let ended : Ended = put.ended X A g d dd in
    let clauses = put.clauses X A g d dd 𝓛 𝓜.mem 𝓡.returns in
    let fn : Fn = inst_fn (args E) compiled.function in
    let params = ended.signature.params in let kept = ended.kept in
    let stayed : Stays params kept =
    (stay_ref (0 ∷ []) tt (plain (λ _. Bl E)), (stay_dropped (slot_at 1 params) kept.1.0, (stay_dropped (slot_at 2 params) kept.1.1.0, (stay_dropped (slot_at 3 params) kept.1.1.1.0, tt)))) in
    let C = (tables 𝓤 H 𝓜 𝓡 𝓡.env).C in
    let Λ = (tables 𝓤 H 𝓜 𝓡 𝓡.env).Λ in
    proved_at 𝓛 ended stayed clauses 𝓜 𝓡 (
      Goes-ref 𝓛 3 0 tt (plain (λ _. Bl E)),
      (
        Goes-dropped 𝓛 3 (slot_at 1 params) kept.1.0 (λ κs x f. refl),
        (Goes-dropped 𝓛 3 (slot_at 2 params) kept.1.1.0 (λ κs x f. refl), (Goes-dropped 𝓛 3 (slot_at 3 params) kept.1.1.1.0 (λ κs x f. refl), tt)),
      ),
    )
    (#self (args E)) fn (compiled.unfolded 𝓤 H 𝓜 𝓡 wired (X, (A, tt)) d dd) (λ z are.
    let Post : Val → SProp 𝓤 = (walk_of 𝓛 ended stayed clauses).post z in
    let κ : Lft = z.0.0.0 in let q : Share = z.0.1.0 in
    let κX : Lft = z.0.0.1.0 in let κA : Lft = z.0.0.1.1.0 in
    let a = z.0.3 in let rb = a.0.ref_ptr.0 in let ro = a.0.ref_ptr.1 in let γ = a.0.ghost_name in let owner = a.0.now in
    let start = a.1.0 in let n = a.1.1.0 in let y = a.1.1.1.0 in
    let h = owner.alloc in let c = owner.room in let xs = owner.values in let s = sz E in let τ = elτ E in
    let told = alone τ z.0.4.1.1.1.0 ((el_lawful E 𝓛).typed y z.0.4.1.1.1.0 are.1.1.1.0) in let v = told.0 in let good = told.2 in
    let Begins : Type 0 = owner.at ≡ start.at in let Counts : Type 0 = length xs ≡ n in let Room : Type 0 = n < c in
    let new : (Bl E).Denot = record { mark = owner.mark; at = owner.at; alloc = h; room = c; values = xs ++ y ∷ [] } in
    qed 𝓛 ((raw (alive 𝓛 ended.signature z.0.0 z.0.1) ⊛ ‵ (owns (types_at params z.0.0) a z.0.4))
    ∷ (raw (fact 𝓤 (κX ⊑ X.lives)) ⊛ raw (fact 𝓤 (κA ⊑ A.lives)) ⊛ raw (fact 𝓤 Begins) ⊛ raw (fact 𝓤 Counts) ⊛ raw (fact 𝓤 Room)) ∷ []) ∵
    move ! (1 ∷ []) $ split ! $ drop ! $ split ! $ drop ! $ split ! $ heard ! Begins (λ begins. split ! $ heard ! Counts (λ counts. heard ! Room (λ room.
    split ! $ use1 𝓛 (‵ (flft κ q) ⊛ (‵ (flft κX z.0.1.1.0) ⊛ ‵ (flft κA z.0.1.1.1.0) ⊛ ‵ ftrue)) (id⊢ 𝓤 _) $ split ! $ move ! (2 ∷ []) $
    fsplit ! $ fsplit3 ! $ move ! (3 ∷ []) $ fsplit ! $ drop ! $ fsplit ! $ drop ! $ fsplit ! $
    rewrite ! 0 (λ (us : List Val). ‵ (X.own_val y us)) told.1 refl $
    -- [the value; the empty list; its word; what γ is seen at; the borrow; its token; the other tokens]
    keep ! (3 ∷ 4 ∷ 5 ∷ 0 ∷ 6 ∷ []) $
    regoal ! (λ (us : List Val). prop (WpFn 𝓤 H C Λ fn us Post)) (λ i. are.0.0 i ++ (start_told start.at z.0.4.1.0 are.1.0 i ++ (are.1.1.0.0 i ++ (told.1 i ++ [])))) refl $
    enter ! C Λ fn (vptr rb ro ∷ start_val start.at ∷ vint w64 n ∷ v ∷ []) Post $
    alloc_all ! (λ l. pass_all ! refl ((tt, tt), (start_good [] start.at, ((tt, record { fits = are.1.1.0.1 }), (good, tt)))) $
    let En : Env 𝓤 H = env fn.locals l in
    opens ! tt (Bl E) {h = owner} rb ro (λ vs. move ! (1 ∷ []) $ fsplit ! $ move ! (1 ∷ []) $ fsplit ! $ flt_l ! (λ small.
    in_a_block ! owner.at (λ r. in_block r (block_with_items (token Z h) (R E) r (length xs) c xs)) (id⊢ 𝓤 (never 𝓤)) (λ b o e.
    let tiny : s < 2 ^ 64 = omega (arith, one_below c s (2 ^ 63) (omega arith) small) in
    let far : n * s < 2 ^ 64 = omega (arith, times_below n c s (2 ^ 63) (omega arith) small) in
    rewrite ! 0 (λ (k : ℕ). ‵ (Parts E 𝓛 b o h c xs xs k)) counts refl $
    use1 𝓛 (‵ (froom τ b (n * s + o)) ⊛ ‵ (Left E 𝓛 b o h c xs n)) (next_out E 𝓛 b o h c xs n room) $ split ! $
    take_at ! 2 $ rewrite ! 0 (λ (p : Ptr). ‵ (fat full_share (layout (St E)) (l 2) 0 (start_val p))) (sym begins ∙ e) refl $ give_at ! 2 $ first ! $ blocks ! $
    sets ! (bin ! (get ! refl) (size_lit ! (record { fits = tiny })) (record { fits = far })) refl (tt, record { fits = far }) $
    sets ! (bin ! (get_in ! (fld ! refl (stop !)) (sub ! 0 refl (whole !))) (get ! refl) tt) refl (tt, tt) $
    -- [the room; the rest of the block; the words of the owner; its cell; the open borrow, in three entries; what the value owns]
    sets ! (of_opd ! (get ! refl)) refl good $ assigns_last ! (of_opd ! (get ! refl)) (through ! refl (stop !)) (init ! 0 refl good) $
    exec ! C Λ En (after 1 fn.body) (at_ret En Post) $ sets ! (of_opd ! (unit_lit !)) refl (tt, tt) $
    let ys = xs ++ y ∷ [] in
    move ! (0 ∷ 7 ∷ 1 ∷ []) $ use3 𝓛 (‵ (Parts E 𝓛 b o h c xs ys (length ys))) (next_in E 𝓛 b o h c xs n y v (sym counts)) $
    flt_i ! (c * s) (2 ^ 63) small $ fjoin ! $ rewrite ! 0 (λ (p : Ptr). ‵ (block_owned (token Z h) (R E) p c ys)) (sym e) refl $
    move ! (1 ∷ 0 ∷ []) $ fjoin ! $ move ! (1 ∷ 0 ∷ []) $ closes ! tt (Bl E) new vs rb ro $
    returns ! (look_at ! 0 refl) $ free_all ! refl $
    -- [what γ is seen at; the borrow; the tokens]
    move ! (2 ∷ 3 ∷ []) $ join ! $ move ! (1 ∷ 2 ∷ []) $ feq_i ! (List Val) z.0.4.0 (vptr rb ro ∷ []) are.0.0 $ fjoin3 ! $
    nothing ! $ nothing ! $ fjoin ! $ nothing ! $ fjoin ! $ nothing ! $ fjoin ! $ move ! (1 ∷ 0 ∷ []) $ fjoin ! $
    use0 𝓛 (raw (fact 𝓤 (Becomes owner new ys))) (fact_i 𝓤 (Becomes owner new ys) (emp 𝓤) (refl, refl, refl, refl)) $
    feq_i ! (List Val) (vunit ∷ []) (vunit ∷ []) refl $ move ! (3 ∷ 2 ∷ 0 ∷ 1 ∷ []) $
    by ! (leaves 𝓛 ended stayed clauses z vunit tt (new, (tt, (tt, (tt, tt)))) (tt, (tt, (tt, (tt, tt)))))))))))))
