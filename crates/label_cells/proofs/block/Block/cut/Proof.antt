-- `cut` runs no code: the values behind the first n are forgotten, and their places are room. Assumes `Logic`.
use Rattle.std.proofs.Common.{◌*◌, ◌≤◌, ◌^◌, List, [], ◌∷◌, ◌++◌, length, take, refl, sym, w64}
use mir.Syntax.{Fn}
use mir.MapTy.{inst_fn}
use mir.Val.{Val, vint, vptr, vunit}
use base.Logic.{SProp, emp, id⊢, never}
use base.Fml.{Lft, Share, ftrue, flft}
use prog.Wp.{WpFn}
use contract.BorrowLft.{◌⊑◌}
use contract.Monad.{fact, fact_i}
use contract.Running.{tables}
use types.Kit.{‵, raw, ◌⊛◌, prop, ◌$◌, ◌∵◌, !, qed, by, move, keep, drop, use0, use1, split, join, regoal, rewrite, fsplit, fsplit3, fjoin, fjoin3, feq_i, flt_i, flt_l}
use types.Run.{unit_lit, of_opd, returns, enter}
use types.ByLocal.{alloc_all, pass_all, free_all, look_at, sets}
use denote.RattleType.{owns}
use denote.RawPtr.{Ptr, in_a_block, in_block}
use denote.Signature.{plain, types_at}
use denote.Steps.{nothing, heard, opens, closes}
use denote.Triple.Clauses.{Ended}
use denote.Triple.Entry.{alive}
use denote.Triple.Walked.{Stays, stay_dropped, stay_ref, walk_of, Goes-dropped, Goes-ref}
use Rattle.std.specs.Allocator.{block_with_items}
use Rattle.core.proofs.alloc.Calls.{Al, token}
use Rattle.std.proofs.raw_atomic.Walks.{proved_at, leaves}
use Rattle.std_alloc.proofs.VecSteps.El.{El, R, sz, args}
use Rattle.label_cells.specs.inside.Blocks.{Becomes}
use Rattle.label_cells.specs.inside.Ownership.{block_owned}
use Rattle.label_cells.specs.contracts.block.Block.cut as cut
use Rattle.label_cells.specs.contracts.block.Block.cut.Key.{name as #self}
use Rattle.label_cells.proofs.BlockSteps.{Bl, slot_at, Parts, cut_at}
use Rattle.label_cells.proofs.block.Block.cut.Statement.{statement}
use Rattle.label_cells.proofs.block.Block.cut.Code as compiled

pub cut_spec : {M : Type 1} → statement M
cut_spec 𝓤 𝓛 𝓜 𝓡 wired X A LX LA g d dd met md =
    let H = 𝓛.H in
    let Z : Al = record { row = A; laws = LA; g = g; d = d; drops = dd } in
    let E : El = record { row = X; laws = LX; al = Z } in
    let ended : Ended = cut.ended X A g d dd in
    let clauses = cut.clauses X A g d dd 𝓛 𝓜.mem 𝓡.returns in
    let fn : Fn = inst_fn (args E) compiled.function in
    let params = ended.signature.params in let kept = ended.kept in
    let stayed : Stays params kept =
    (stay_ref (0 ∷ []) tt (plain (λ _. Bl E)), (stay_dropped (slot_at 1 params) kept.1.0, tt)) in
    let C = (tables 𝓤 H 𝓜 𝓡 𝓡.env).C in
    let Λ = (tables 𝓤 H 𝓜 𝓡 𝓡.env).Λ in
    proved_at 𝓛 ended stayed clauses 𝓜 𝓡
    (Goes-ref 𝓛 3 0 tt (plain (λ _. Bl E)), (Goes-dropped 𝓛 3 (slot_at 1 params) kept.1.0 (λ κs x f. refl), tt))
    (#self (args E)) fn (compiled.unfolded 𝓤 H 𝓜 𝓡 wired (X, (A, tt)) d dd) (λ z are.
    let Post : Val → SProp 𝓤 = (walk_of 𝓛 ended stayed clauses).post z in
    let κ : Lft = z.0.0.0 in let q : Share = z.0.1.0 in
    let κX : Lft = z.0.0.1.0 in let κA : Lft = z.0.0.1.1.0 in
    let a = z.0.3 in let rb = a.0.ref_ptr.0 in let ro = a.0.ref_ptr.1 in let γ = a.0.ghost_name in let owner = a.0.now in
    let n = a.1.0 in let h = owner.alloc in let c = owner.room in let xs = owner.values in let ys = take n xs in let s = sz E in
    let Counts : Type 0 = n ≤ length xs in let Room : Type 0 = length xs ≤ c in
    let new : (Bl E).Denot = record { mark = owner.mark; at = owner.at; alloc = h; room = c; values = ys } in
    qed 𝓛 ((raw (alive 𝓛 ended.signature z.0.0 z.0.1) ⊛ ‵ (owns (types_at params z.0.0) a z.0.4))
    ∷ (raw (fact 𝓤 (κX ⊑ X.lives)) ⊛ raw (fact 𝓤 (κA ⊑ A.lives)) ⊛ raw (fact 𝓤 Counts) ⊛ raw (fact 𝓤 Room)) ∷ []) ∵
    move ! (1 ∷ []) $ split ! $ drop ! $ split ! $ drop ! $ split ! $ heard ! Counts (λ counts. heard ! Room (λ room.
    split ! $ use1 𝓛 (‵ (flft κ q) ⊛ (‵ (flft κX z.0.1.1.0) ⊛ ‵ (flft κA z.0.1.1.1.0) ⊛ ‵ ftrue)) (id⊢ 𝓤 _) $ split ! $ move ! (2 ∷ []) $
    fsplit ! $ fsplit3 ! $
    -- [its word; what γ is seen at; the borrow; the number; its token; the other tokens]
    keep ! (1 ∷ 2 ∷ 4 ∷ 5 ∷ []) $
    regoal ! (λ (us : List Val). prop (WpFn 𝓤 H C Λ fn us Post)) (λ i. are.0.0 i ++ (are.1.0.0 i ++ [])) refl $
    enter ! C Λ fn (vptr rb ro ∷ vint w64 n ∷ []) Post $
    alloc_all ! (λ l. pass_all ! refl ((tt, tt), ((tt, record { fits = are.1.0.1 }), tt)) $
    opens ! tt (Bl E) {h = owner} rb ro (λ vs. move ! (1 ∷ []) $ fsplit ! $ move ! (1 ∷ []) $ fsplit ! $ flt_l ! (λ small.
    in_a_block ! owner.at (λ r. in_block r (block_with_items (token Z h) (R E) r (length xs) c xs)) (id⊢ 𝓤 (never 𝓤)) (λ b o e.
    use1 𝓛 (‵ (Parts E 𝓛 b o h c xs ys (length ys))) (cut_at E 𝓛 b o h c xs n counts room) $
    flt_i ! (c * s) (2 ^ 63) small $ fjoin ! $ rewrite ! 0 (λ (p : Ptr). ‵ (block_owned (token Z h) (R E) p c ys)) (sym e) refl $
    move ! (1 ∷ 0 ∷ []) $ fjoin ! $ move ! (1 ∷ 0 ∷ []) $ closes ! tt (Bl E) new vs rb ro $
    sets ! (of_opd ! (unit_lit !)) refl (tt, tt) $ returns ! (look_at ! 0 refl) $ free_all ! refl $
    -- [what γ is seen at; the borrow; the tokens]
    move ! (2 ∷ 3 ∷ []) $ join ! $ move ! (1 ∷ 2 ∷ []) $ feq_i ! (List Val) z.0.4.0 (vptr rb ro ∷ []) are.0.0 $ fjoin3 ! $
    nothing ! $ nothing ! $ fjoin ! $ move ! (1 ∷ 0 ∷ []) $ fjoin ! $
    use0 𝓛 (raw (fact 𝓤 (Becomes owner new ys))) (fact_i 𝓤 (Becomes owner new ys) (emp 𝓤) (refl, refl, refl, refl)) $
    feq_i ! (List Val) (vunit ∷ []) (vunit ∷ []) refl $ move ! (3 ∷ 2 ∷ 0 ∷ 1 ∷ []) $
    by ! (leaves 𝓛 ended stayed clauses z vunit tt (new, (tt, tt)) (tt, (tt, tt))))))))))
