-- `claim` asks the allocator for a block, and makes its owner of what it answers. Assumes `Logic`.
use Rattle.std.proofs.Common.{ℕ, ◌*◌, ◌<◌, ◌^◌, List, [], ◌∷◌, ◌++◌, refl, sym, ap, subst, arith, lit<, w64, true, false, Ok, Err}
use mir.Syntax.{Ty, Body, Fn}
use mir.MapTy.{inst_fn}
use mir.Val.{Val, vint, vptr, vstruct, vcons, vnil}
use base.Logic.{SProp, emp, id⊢}
use base.Fml.{Lft, Share, ftrue, flft, Incl-trans}
use prog.Memory.{align, capped}
use prog.Capped.{capped_fits}
use prog.Wp.{Env, WpFn}
use contract.BorrowLft.{◌⊑◌}
use contract.Monad.{fact, fact_i}
use contract.Running.{tables}
use types.Kit.{‵, raw, ◌⊛◌, later, prop, at_ret, ◌$◌, ◌∵◌, !, qed, by, move, drop, use0, use1, use2, split, join, regoal, fsplit, fjoin, await}
use types.Part.{whole, agg}
use types.Match.{live, vrt, in_variant}
use types.Run.{stop, fld, lit, bin, of_opd, no_more, and_then, first, switches_on, exec, returns, enter, size_word, align_word}
use types.ByLocal.{alloc_all, pass_all, free_all, look_at, get, get_in, get_tag, sets, sets_last, lands_as, is, env}
use denote.RattleType.{RattleType, owns}
use denote.Laws.{Is}
use denote.Param.{layout}
use denote.RawPtr.{Ptr, block_ptr}
use denote.Signature.{types_at}
use denote.Steps.{nothing, heard, owned}
use denote.Struct.Struct.{Struct, Struct-Makes}
use denote.Struct.Declared as Declared
use denote.Struct.Tuple.{Tuple}
use denote.Triple.Call.{calls_at}
use denote.Triple.Clauses.{Ended}
use denote.Triple.Entry.{alive}
use denote.Triple.Walked.{Stays, stay_dropped, walk_of, Goes-dropped}
use Rattle.std.specs.Vec.Ownership.{FitsInBlock}
use Rattle.core.specs.contracts.alloc.AllocError as refusal
use Rattle.core.specs.contracts.result.Result as RS
use Rattle.core.proofs.alloc.Calls.{Al, Answer-typed, seen, token, Takes, at_takes, Answered, Takes-goes, Takes-gives, answers}
use Rattle.core.proofs.alloc.Shapes.{after, head, arm_body}
use Rattle.core.proofs.atomic.Steps.{fm}
use Rattle.core.proofs.cell.Inside.{Good}
use Rattle.core.proofs.slots.Leases.{uncapped, block_ty, block_size, block_align}
use Rattle.std.proofs.raw_atomic.Walks.{proved_at, leaves}
use Rattle.std_alloc.proofs.RcSteps.{first_Good}
use Rattle.std_alloc.proofs.ResultValues.{ok_of, err_of}
use Rattle.std_alloc.proofs.VecSteps.El.{El, R, sz, elτ, args}
use Rattle.label_cells.specs.inside.Blocks.{IsBlock}
use Rattle.label_cells.specs.inside.Ownership.{block_owned}
use Rattle.label_cells.specs.contracts.block.Block.claim as claim
use Rattle.label_cells.specs.contracts.block.Block.claim.Key.{name as #self}
use Rattle.label_cells.proofs.BlockSteps.{St, Bl, element, start_val, start_own, start_made, mark_val, mark_own, mark_made, pair_val, pair_made, slot_at, then_runs, fresh}
use Rattle.label_cells.proofs.block.Block.claim.Statement.{statement}
use Rattle.label_cells.proofs.block.Block.claim.Code as compiled

pub claim_spec : {M : Type 1} → statement M
claim_spec 𝓤 𝓛 𝓜 𝓡 wired X A LX LA g d dd met md =
    let H = 𝓛.H in
    let Z : Al = record { row = A; laws = LA; g = g; d = d; drops = dd } in
    let E : El = record { row = X; laws = LX; al = Z } in
    let ended : Ended = claim.ended X A g d dd in
    let clauses = claim.clauses X A g d dd 𝓛 𝓜.mem 𝓡.returns in
    let fn : Fn = inst_fn (args E) compiled.function in
    let params = ended.signature.params in
    let stayed : Stays params ended.kept = (stay_dropped (slot_at 0 params) ended.kept.0, (stay_dropped (slot_at 1 params) ended.kept.1.0, tt)) in
    let C = (tables 𝓤 H 𝓜 𝓡 𝓡.env).C in
    let Λ = (tables 𝓤 H 𝓜 𝓡 𝓡.env).Λ in
    proved_at 𝓛 ended stayed clauses 𝓜 𝓡
    (Goes-dropped 𝓛 3 (slot_at 0 params) ended.kept.0 (λ κs x f. refl), (Goes-dropped 𝓛 3 (slot_at 1 params) ended.kept.1.0 (λ κs x f. refl), tt))
    (#self (args E)) fn (compiled.unfolded 𝓤 H 𝓜 𝓡 wired (X, (A, tt)) d dd) (λ z are.
    let Post : Val → SProp 𝓤 = (walk_of 𝓛 ended stayed clauses).post z in
    let κ : Lft = z.0.0.0 in let q : Share = z.0.1.0 in
    let κX : Lft = z.0.0.1.0 in let κA : Lft = z.0.0.1.1.0 in
    let a = z.0.3 in let h = a.0.now in let at = a.0.ref_ptr in let n = a.1.0 in
    let s = sz E in let τ : Ty = elτ E in let al : ℕ = capped (align τ) in
    let block : Ty = block_ty (element E) n in
    let y = at_takes Z 𝓛 𝓜.mem 𝓡.returns κ q at h (n * s) al block in
    let Pair : RattleType = Tuple (St E ∷ Bl E ∷ []) in
    let Out : RattleType = RS.the_row Pair refusal.the_row in
    let Asked : Type 0 = FitsInBlock (R E) n in
    let both : Body = head (after 2 fn.body) in
    qed 𝓛 ((raw (alive 𝓛 ended.signature z.0.0 z.0.1) ⊛ ‵ (owns (types_at params z.0.0) a z.0.4))
    ∷ (raw (fact 𝓤 (κX ⊑ X.lives)) ⊛ raw (fact 𝓤 (κA ⊑ A.lives)) ⊛ raw (fact 𝓤 Asked)) ∷ []) ∵
    move ! (1 ∷ []) $ split ! $ drop ! $ split ! $ heard ! (κA ⊑ A.lives) (λ within. heard ! Asked (λ asked.
    let small : n * s < 2 ^ 63 = asked.0 in let bytes : n * s < 2 ^ 64 = omega arith in let count : n < 2 ^ 64 = are.1.0.1 in
    let fits : n * capped s < 2 ^ 64 = subst (λ (k : ℕ). k < 2 ^ 64) (sym (uncapped n s bytes)) bytes in
    split ! $ move ! (1 ∷ []) $ fsplit ! $ fsplit ! $ drop ! $ move ! (1 ∷ []) $ drop ! $
    use1 𝓛 (‵ (seen Z κ at h)) (id⊢ 𝓤 _) $ move ! (1 ∷ []) $
    use1 𝓛 (‵ (flft κ q) ⊛ (‵ (flft κX z.0.1.1.0) ⊛ ‵ (flft κA z.0.1.1.1.0) ⊛ ‵ ftrue)) (id⊢ 𝓤 _) $ split ! $ move ! (2 ∷ 0 ∷ []) $
    -- [the handle's `&`; its token; the other tokens]
    regoal ! (λ (us : List Val). prop (WpFn 𝓤 H C Λ fn us Post)) (λ i. are.0.0 i ++ (are.1.0.0 i ++ [])) refl $
    enter ! C Λ fn (vptr at.0 at.1 ∷ vint w64 n ∷ []) Post $
    alloc_all ! (λ l. pass_all ! refl ((tt, tt), ((tt, record { fits = count }), tt)) $
    let En : Env 𝓤 H = env fn.locals l in
    let Then = then_runs 𝓛 C Λ En (after 3 fn.body) (at_ret En Post) in
    sets ! (is ! (bin ! (get ! refl) (size_word !) (record { fits = fits })) (ap (vint w64) (uncapped n s bytes))) refl (tt, record { fits = bytes }) $
    use2 𝓛 (raw ((Takes Z 𝓛 𝓜.mem 𝓡.returns).pre y))
    (Takes-goes Z 𝓛 𝓜.mem 𝓡.returns κ q at h (Incl-trans z.0.2.0 within) (n * s) al block (block_size (element E) n bytes) (block_align (element E) n) bytes (capped_fits (align τ))) $
    calls_at ! (fm 𝓛 𝓜 𝓡) (Takes Z 𝓛 𝓜.mem 𝓡.returns) (met.allocate dd) y (and_then ! (get ! refl) (and_then ! (get ! refl) (and_then ! (align_word !) (no_more !)))) (λ v.
    use1 𝓛 (later (raw (Answered Z 𝓛 𝓜.mem 𝓡.returns h block v) ⊛ ‵ (flft κ q))) (Takes-gives Z 𝓛 𝓜.mem 𝓡.returns κ q at h (n * s) al block v) $ await ! tt $ split ! $
    answers Z ! 𝓜.mem 𝓡.returns h block v
    (λ b o e.
    let p : Ptr = block_ptr b o in
    let owner : (Bl E).Denot = record { mark = record {}; at = p; alloc = h; room = n; values = [] } in
    let begins : (St E).Denot = record { at = p } in
    let Made : Type 0 = IsBlock begins h n [] owner in
    let got : Val = pair_val (start_val p) mark_val in
    let typed : Good (layout Pair) got = (tt, ((tt, tt), ((tt, tt), tt))) in
    let ok = first_Good (layout Pair) got typed in
    fjoin ! $ move ! (1 ∷ 2 ∷ []) $ join ! $
    lands_as ! e refl (Answer-typed true b o) $ first ! $ switches_on ! (get_tag ! (vrt ! refl (fld ! refl (stop !))) (whole !)) $ exec ! C Λ En (arm_body 0 both) Then $
    sets ! (of_opd ! (get_in ! (vrt ! refl (fld ! refl (stop !))) (in_variant ! 0 0 refl refl (whole !)))) refl (tt, tt) $ sets ! (of_opd ! (get ! refl)) refl (tt, tt) $
    sets ! (agg ! (and_then ! (get ! refl) (no_more !))) refl (tt, (tt, tt)) $
    sets ! (agg ! (no_more !)) refl (tt, tt) $ sets ! (agg ! (and_then ! (get ! refl) (no_more !))) refl (tt, (tt, tt)) $
    sets ! (agg ! (and_then ! (get ! refl) (and_then ! (get ! refl) (no_more !)))) refl typed $
    sets_last ! (agg ! (and_then ! (lit ! tt) (and_then ! (get ! refl) (no_more !)))) refl ok $
    exec ! C Λ En (after 3 fn.body) (at_ret En Post) $ sets ! (of_opd ! (get ! refl)) refl ok $
    returns ! (look_at ! 0 refl) $ free_all ! refl $
    -- [the tokens; the block]
    move ! (1 ∷ []) $ use1 𝓛 (‵ (block_owned (token Z h) (R E) p n [])) (fresh E 𝓛 b o h n small) $
    use0 𝓛 (‵ (mark_own (mark_val ∷ []))) (mark_made 𝓛) $ fjoin ! $ use0 𝓛 (‵ (start_own p (start_val p ∷ []))) (start_made 𝓛 p) $
    use2 𝓛 (‵ (Pair.own_val (begins, owner) (got ∷ []))) (pair_made 𝓛 (St E) (Bl E) begins owner (start_val p) mark_val) $
    use1 𝓛 (‵ (Out.own_val (Ok (begins, owner)) (live 0 (vcons got vnil) ∷ []))) (ok_of 𝓛 Pair refusal.the_row (begins, owner) got) $
    use0 𝓛 (raw (fact 𝓤 Made)) (fact_i 𝓤 Made (emp 𝓤) (refl, refl, refl, refl)) $
    nothing ! $ nothing ! $ fjoin ! $ nothing ! $ fjoin ! $ move ! (3 ∷ 0 ∷ 2 ∷ 1 ∷ []) $
    by ! (leaves 𝓛 ended stayed clauses z (live 0 (vcons got vnil)) (Ok (begins, owner)) (tt, (tt, tt)) (tt, (tt, tt))))
    (λ e.
    let Refusal : RattleType = Struct (Declared.shape refusal.the_type) in
    let none : Val = live 1 (vcons (vstruct vnil) vnil) in
    join ! $
    lands_as ! e refl (Answer-typed false 0 0) $ first ! $ switches_on ! (get_tag ! (vrt ! refl (fld ! refl (stop !))) (whole !)) $ exec ! C Λ En (arm_body 1 both) Then $
    sets ! (of_opd ! (get_in ! (vrt ! refl (fld ! refl (stop !))) (in_variant ! 1 0 refl refl (whole !)))) refl (tt, tt) $
    sets_last ! (agg ! (and_then ! (lit ! tt) (and_then ! (get ! refl) (no_more !)))) refl (tt, (record { fits = lit< tt }, (tt, tt))) $
    exec ! C Λ En (after 3 fn.body) (at_ret En Post) $ sets ! (of_opd ! (get ! refl)) refl (tt, (record { fits = lit< tt }, (tt, tt))) $
    returns ! (look_at ! 0 refl) $ free_all ! refl $
    owned ! Refusal (Is Refusal) (Struct-Makes 𝓛 (Declared.shape refusal.the_type) tt) tt (vstruct vnil ∷ []) (tt, (refl, tt)) $
    use1 𝓛 (‵ (Out.own_val (Err (record {})) (none ∷ []))) (err_of 𝓛 Pair refusal.the_row (record {}) (vstruct vnil)) $
    use0 𝓛 (raw (fact 𝓤 (Unit {0}))) (fact_i 𝓤 (Unit {0}) (emp 𝓤) tt) $
    nothing ! $ nothing ! $ fjoin ! $ nothing ! $ fjoin ! $ move ! (3 ∷ 0 ∷ 2 ∷ 1 ∷ []) $
    by ! (leaves 𝓛 ended stayed clauses z none (Err (record {})) (tt, (tt, tt)) (tt, (tt, tt)))))))))
