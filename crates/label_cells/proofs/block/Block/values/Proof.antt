-- `values` shows the values that a `&` to a block lends. Assumes `Logic`.
use Rattle.std.proofs.Common.{◌≡◌, ◌*◌, ◌<◌, ◌≤◌, ◌^◌, List, [], ◌∷◌, ◌++◌, length, refl, sym, ap, ◌∙◌, arith, w64}
use mir.Syntax.{Fn}
use mir.MapTy.{inst_fn}
use mir.Val.{Val, vint, vptr}
use base.Logic.{SProp, emp, id⊢, never, fst∗}
use base.Fml.{Lft, Share}
use prog.Wp.{Env, WpFn}
use types.Logic.{sem}
use contract.BorrowLft.{◌⊑◌}
use contract.Monad.{fact, fact_i}
use contract.Running.{tables}
use types.Kit.{‵, raw, ◌⊛◌, prop, at_ret, ◌$◌, ◌∵◌, !, qed, by, move, keep, drop, use0, use1, split, regoal, fsplit, fjoin, feq_i, flt_i, flt_l}
use types.Part.{whole, sub, agg}
use types.Run.{stop, fld, of_opd, and_then, no_more, first, blocks, exec, returns, enter}
use types.ByLocal.{alloc_all, pass_all, free_all, look_at, get, get_in, sets, sets_last, env}
use denote.RattleType.{owns}
use denote.Array.{Array}
use denote.Memory.{hidden_shr, shared_of}
use denote.Opens.{hide, unhide}
use denote.RawPtr.{Ptr, block_ptr, in_a_block}
use denote.Signature.{types_at}
use denote.Slice.{slice_val}
use denote.Steps.{nothing, heard}
use denote.Struct.Lending.{lent_at}
use denote.Triple.Clauses.{Ended}
use denote.Triple.Entry.{alive}
use denote.Triple.Walked.{Stays, stay_dropped, walk_of, Goes-dropped}
use Rattle.core.proofs.alloc.Calls.{Al}
use Rattle.core.proofs.alloc.Shapes.{after}
use Rattle.core.proofs.ptr.Rows.{times_below}
use Rattle.std.proofs.raw_atomic.Walks.{proved_at, leaves}
use Rattle.std_alloc.proofs.VecSteps.El.{El, R, sz, args}
use Rattle.label_cells.specs.contracts.block.Block.values as values
use Rattle.label_cells.specs.contracts.block.Block.values.Key.{name as #self}
use Rattle.label_cells.proofs.BlockSteps.{Bl, start_val, start_told, slot_at}
use Rattle.label_cells.proofs.block.Block.values.Statement.{statement}
use Rattle.label_cells.proofs.block.Block.values.Code as compiled

pub values_spec : {M : Type 1} → statement M
values_spec 𝓤 𝓛 𝓜 𝓡 wired X A LX LA g d dd met md =
    let H = 𝓛.H in
    let Z : Al = record { row = A; laws = LA; g = g; d = d; drops = dd } in
    let E : El = record { row = X; laws = LX; al = Z } in
    let ended : Ended = values.ended X A g d dd in
    let clauses = values.clauses X A g d dd 𝓛 𝓜.mem 𝓡.returns in
    let fn : Fn = inst_fn (args E) compiled.function in
    let params = ended.signature.params in let kept = ended.kept in
    let stayed : Stays params kept =
    (stay_dropped (slot_at 0 params) kept.0, (stay_dropped (slot_at 1 params) kept.1.0, (stay_dropped (slot_at 2 params) kept.1.1.0, tt))) in
    let C = (tables 𝓤 H 𝓜 𝓡 𝓡.env).C in
    let Λ = (tables 𝓤 H 𝓜 𝓡 𝓡.env).Λ in
    proved_at 𝓛 ended stayed clauses 𝓜 𝓡 (
      Goes-dropped 𝓛 3 (slot_at 0 params) kept.0 (λ κs x f. refl),
      (
        Goes-dropped 𝓛 3 (slot_at 1 params) kept.1.0 (λ κs x f. refl),
        (Goes-dropped 𝓛 3 (slot_at 2 params) kept.1.1.0 (λ κs x f. refl), tt),
      ),
    )
    (#self (args E)) fn (compiled.unfolded 𝓤 H 𝓜 𝓡 wired (X, (A, tt)) d dd) (λ z are.
    let Post : Val → SProp 𝓤 = (walk_of 𝓛 ended stayed clauses).post z in
    let κ : Lft = z.0.0.0 in let q : Share = z.0.1.0 in
    let κX : Lft = z.0.0.1.0 in let κA : Lft = z.0.0.1.1.0 in
    let a = z.0.3 in let owner = a.0.now in let rb = a.0.ref_ptr.0 in let ro = a.0.ref_ptr.1 in let start = a.1.0 in let n = a.1.1.0 in
    let xs = owner.values in let s = sz E in let Run = Array (R E) (length xs) in
    let Begins : Type 0 = owner.at ≡ start.at in let Counts : Type 0 = length xs ≡ n in let Room : Type 0 = n ≤ owner.room in
    qed 𝓛 ((raw (alive 𝓛 ended.signature z.0.0 z.0.1) ⊛ ‵ (owns (types_at params z.0.0) a z.0.4))
    ∷ (raw (fact 𝓤 (κX ⊑ X.lives)) ⊛ raw (fact 𝓤 (κA ⊑ A.lives)) ⊛ raw (fact 𝓤 Begins) ⊛ raw (fact 𝓤 Counts) ⊛ raw (fact 𝓤 Room)) ∷ []) ∵
    move ! (1 ∷ []) $ split ! $ drop ! $ split ! $ drop ! $ split ! $ heard ! Begins (λ begins. split ! $ heard ! Counts (λ counts. heard ! Room (λ room.
    split ! $ move ! (1 ∷ []) $ fsplit ! $ fsplit ! $ drop ! $ use1 𝓛 (‵ (hidden_shr (Bl E) κ owner rb ro)) (id⊢ 𝓤 _) $ keep ! (0 ∷ 2 ∷ []) $
    unhide ! $ fsplit ! $ drop ! $ fsplit ! $ flt_l ! (λ small.
    in_a_block ! owner.at (λ p. lent_at Run p xs κ) (fst∗ 𝓤 (never 𝓤) (sem 𝓛 (shared_of Run xs 0 0 κ))) (λ b o e. fsplit ! $ drop ! $ fsplit ! $ drop ! $ hide ! $
    -- [the values, as a `&` holds them; the tokens]
    regoal ! (λ (us : List Val). prop (WpFn 𝓤 H C Λ fn us Post))
    (λ i. are.0.0 i ++ ((start_told start.at z.0.4.1.0 are.1.0 ∙ ap (λ (p : Ptr). start_val p ∷ []) (sym begins ∙ e)) i ++ (are.1.1.0.0 i ++ []))) refl $
    enter ! C Λ fn (vptr rb ro ∷ start_val (block_ptr b o) ∷ vint w64 n ∷ []) Post $
    alloc_all ! (λ l. pass_all ! refl ((tt, tt), ((tt, (tt, tt)), ((tt, record { fits = are.1.1.0.1 }), tt))) $
    let En : Env 𝓤 H = env fn.locals l in
    let count : n < 2 ^ 64 = are.1.1.0.1 in
    let word : Val = slice_val (b, o) n in
    first ! $ blocks ! $
    sets_last ! (agg ! (and_then ! (get_in ! (fld ! refl (stop !)) (sub ! 0 refl (whole !))) (and_then ! (get ! refl) (no_more !)))) refl (tt, (tt, (record { fits = count }, tt))) $
    exec ! C Λ En (after 1 fn.body) (at_ret En Post) $ sets ! (of_opd ! (get ! refl)) refl (tt, (tt, (record { fits = count }, tt))) $
    flt_i ! (length xs * s) (2 ^ 63) (times_below (length xs) owner.room s (2 ^ 63) (omega arith) small) $ flt_i ! (length xs) (2 ^ 64) (omega arith) $ fjoin ! $
    feq_i ! (List Val) (word ∷ []) (slice_val (b, o) (length xs) ∷ []) (ap (λ k. slice_val (b, o) k ∷ []) (sym counts)) $ fjoin ! $ fjoin ! $
    returns ! (look_at ! 0 refl) $ free_all ! refl $
    use0 𝓛 (raw (fact 𝓤 (xs ≡ xs))) (fact_i 𝓤 (xs ≡ xs) (emp 𝓤) refl) $
    nothing ! $ nothing ! $ fjoin ! $ nothing ! $ fjoin ! $ nothing ! $ fjoin ! $ move ! (3 ∷ 0 ∷ 2 ∷ 1 ∷ []) $
    by ! (leaves 𝓛 ended stayed clauses z word (record { ref_ptr = (b, o); now = xs }) (tt, (tt, (tt, tt))) (tt, (tt, (tt, tt)))))))))))
