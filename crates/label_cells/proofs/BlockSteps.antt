-- What the walks over a block share. Assumes `Logic`.
--     St, Bl      the rows of a `Start` and of a `Block`
--     start_val, mark_val      the machine values of the two; `_told`: what is owned tells them; `_made`: they are made of nothing
--     alone      a value of one machine value
use Rattle.std.proofs.Common.{◌≡◌, ℕ, zero, suc, ◌+◌, ◌*◌, ◌-◌, ◌<◌, ◌≤◌, ◌^◌, arith, List, [], ◌∷◌, ◌++◌, length, refl, sym, ap, ◌∙◌, lit<}
use native.Mathlib.Nat.{zero-mul}
use native.Mathlib.Nat.{add_comm, add_assoc}
use lib.ListN.{length-append, length-drop, take, take-append-drop}
use lib.ListN.{drop as drop_l}
use lib.Seq.{length-take-le}
use seplogic.Ra.Ura.{Ura}
use base.Fraction.{full_share}
use mir.Raw.{raw as bare}
use mir.Syntax.{Ty, Body, Sym, ty_ptr, ty_array, ty_struct, tcons, tnil}
use mir.Val.{Val, vstruct, vcons, vnil, of_list}
use base.Logic.{ent, emp, sep}
use base.Fml.{Fml, fat, froom, fsep}
use prog.Wp.{Env, Calls, Loops, Wp, after_seq, after_block}
use types.Logic.{Logic, sem}
use types.Kit.{Post, any_q, post, ‵, ◌$◌, ◌∵◌, !, qed, move, fjoin, fpack, feq_i, flt_i, given, learn, fjoin3, fsplit3, split, use0, use1, use2, rewrite, ◌⊛◌, done}
use denote.RattleType.{RattleType, Valss}
use denote.Array.{Array}
use denote.Memory.{part_at}
use denote.Index.{place, place_is, row}
use denote.Laws.{Typed}
use denote.RawPtr.{Ptr, RawPtr, block_ptr, null_ptr, ptr_val}
use denote.Shadow.{shadow, makes_shadow}
use denote.Builtin.{unit}
use denote.Signature.{Slot, plain}
use denote.Steps.{nothing}
use denote.Struct.Struct.{Struct, within}
use denote.Struct.Declared as Declared
use denote.Struct.Tuple.{Tuple, tuple_type}
use Rattle.core.proofs.cell.Inside.{Good}
use Rattle.core.proofs.mem.Param as core
use Rattle.core.proofs.ptr.Rows.{add_times}
use Rattle.core.proofs.alloc.Calls.{token}
use Rattle.std_alloc.proofs.RawLayout.{as_raw, as_written}
use Rattle.std_alloc.proofs.VecSteps.El.{El, Hd, R, P, sz, el_x, elτ}
use Rattle.std_alloc.proofs.VecSteps.Rows as rows
use Rattle.label_cells.specs.inside.Ownership.{block_owned}
use Rattle.label_cells.specs.contracts.block.Start as start
use Rattle.label_cells.specs.contracts.block.Block as block

module _ (E : El) where
  abbrev pub St : RattleType
  St = start.the_row (R E)

  abbrev pub Bl : RattleType
  Bl = block.the_row (R E) (P E) E.al.g

  -- the element type alone
  abbrev pub element : core.El
  element = record { row = E.row; laws = E.laws }

-- a struct by its fields alone: what it owns does not read its name
abbrev by_fields : List RattleType → RattleType
by_fields Rs = Struct (record { name = []; args = []; types = []; fields = Rs })

abbrev pub start_val : Ptr → Val
start_val p = vstruct (vcons (ptr_val p) vnil)

abbrev pub start_own : Ptr → List Val → Fml
start_own p = (by_fields (RawPtr ∷ [])).own_val (p, tt)

pub start_told : (p : Ptr) (vs : List Val) → shadow (start_own p vs) → vs ≡ start_val p ∷ []
start_told p vs s = s.1.0 ∙ (λ i. vstruct (of_list (s.1.1.0 i ++ [])) ∷ [])

pub start_made : {M : Type 1} {𝓤 : Ura M} (𝓛 : Logic 𝓤) (p : Ptr) → ent 𝓤 (emp 𝓤) (sem 𝓛 (start_own p (start_val p ∷ [])))
start_made 𝓛 p = makes_shadow 𝓛 (start_own p (start_val p ∷ [])) (λ _. (tt, (tt, tt))) ((ptr_val p ∷ [], tt), (refl, (refl, tt)))

pub start_good : (name : Sym) (p : Ptr) → Good (ty_struct name (tcons ty_ptr tnil)) (start_val p)
start_good name (block_ptr b o) = (tt, (tt, tt))
start_good name null_ptr = (tt, (record { fits = lit< tt }, tt))

abbrev pub mark_val : Val
mark_val = vstruct (vcons (vstruct vnil) vnil)

abbrev pub mark_own : List Val → Fml
mark_own = (by_fields (by_fields [] ∷ [])).own_val (tt, tt)

pub mark_told : (vs : List Val) → shadow (mark_own vs) → vs ≡ mark_val ∷ []
mark_told vs s = s.1.0 ∙ (λ i. vstruct (of_list (s.1.1.0.1.0 i ++ [])) ∷ [])

pub mark_made : {M : Type 1} {𝓤 : Ura M} (𝓛 : Logic 𝓤) → ent 𝓤 (emp 𝓤) (sem 𝓛 (mark_own (mark_val ∷ [])))
mark_made 𝓛 = makes_shadow 𝓛 (mark_own (mark_val ∷ [])) (λ _. (tt, ((λ _. (tt, tt)), tt))) ((vstruct vnil ∷ [], tt), (refl, ((tt, (refl, tt)), tt)))

pub alone : (τ : Ty) (vs : List Val) → Typed (τ ∷ []) vs → (v : Val) × (vs ≡ v ∷ []) × Good τ v
alone τ [] t = absurd t
alone τ (v ∷ []) t = (v, refl, t.0)
alone τ (v ∷ w ∷ vs) t = absurd t.1

abbrev pub pair_val : Val → Val → Val
pair_val u v = vstruct (vcons u (vcons v vnil))

pub pair_made : {M : Type 1} {𝓤 : Ura M} (𝓛 : Logic 𝓤) (S T : RattleType) (x : S.Denot) (y : T.Denot) (u v : Val)
    → ent 𝓤 (sep 𝓤 (sem 𝓛 (S.own_val x (u ∷ []))) (sem 𝓛 (T.own_val y (v ∷ [])))) (sem 𝓛 ((Tuple (S ∷ T ∷ [])).own_val (x, y) (pair_val u v ∷ [])))
pair_made 𝓛 S T x y u v =
    qed 𝓛 (‵ (S.own_val x (u ∷ [])) ∷ ‵ (T.own_val y (v ∷ [])) ∷ []) ∵
    nothing ! $ move ! (2 ∷ 0 ∷ []) $ fjoin ! $ move ! (1 ∷ 0 ∷ []) $ fjoin ! $ feq_i ! (List Val) (pair_val u v ∷ []) (pair_val u v ∷ []) refl $ fjoin ! $
    fpack ! (Valss (S ∷ T ∷ [])) (within (Declared.shape (tuple_type (S ∷ T ∷ []))) (x, (y, tt)) (pair_val u v ∷ [])) (u ∷ [], (v ∷ [], tt)) $ done !

abbrev pub slot_at : {n : ℕ} → ℕ → List (Slot n) → Slot n
slot_at k [] = plain (λ _. unit)
slot_at zero (s ∷ ss) = s
slot_at (suc k) (s ∷ ss) = slot_at k ss

-- what follows a statement that ends in an arm or a block
module _ {M : Type 1} {𝓤 : Ura M} (𝓛 : Logic 𝓤) where
  open 𝓛 use {H}

  abbrev pub then_runs : Calls 𝓤 H → Loops 𝓤 H → Env 𝓤 H → Body → Post 𝓤 H → Post 𝓤 H
  then_runs C Λ E b q = any_q (after_seq 𝓤 H (Wp 𝓤 H C Λ E b (post 𝓤 H q)) (post 𝓤 H q))

  abbrev pub out_of_block : Post 𝓤 H → Post 𝓤 H
  out_of_block q = any_q (after_block 𝓤 H (post 𝓤 H q))

module _ (E : El) {M : Type 1} {𝓤 : Ura M} (𝓛 : Logic 𝓤) (b o : ℕ) where
  open 𝓛 use {H}

  abbrev s : ℕ
  s = sz E

  abbrev Room : ℕ → ℕ → Fml
  Room k at = froom (bare (ty_array (elτ E) k)) b at

  -- a block in which nothing is written
  pub fresh : (h : Hd E) (c : ℕ) → c * s < 2 ^ 63
      → ent 𝓤 (sep 𝓤 (sem 𝓛 (Room c o)) (sem 𝓛 (token E.al h (bare (ty_array (elτ E) c)) (block_ptr b o)))) (sem 𝓛 (block_owned (token E.al h) (R E) (block_ptr b o) c []))
  fresh h c small =
      let all : c ≡ c - 0 = omega arith in let whole : o ≡ o + 0 * s = omega (arith, zero-mul s) in
      qed 𝓛 (‵ (Room c o) ∷ ‵ (token E.al h (bare (ty_array (elτ E) c)) (block_ptr b o)) ∷ []) ∵
      rewrite ! 0 (λ (w : ℕ × ℕ). ‵ (Room w.0 w.1)) {x = (c - 0, o + 0 * s)} (λ i. (all i, whole i)) refl $
      fjoin ! $ use0 𝓛 (‵ (part_at (Array (R E) 0) full_share [] b o)) (rows.empty E 𝓛 [] b o refl) $ fjoin ! $ flt_i ! (c * s) (2 ^ 63) small $ fjoin ! $ done !

  -- values that are forgotten leave room
  pub emptied : (n c : ℕ) (xs : List (el_x E)) → n ≤ c
      → ent 𝓤 (sep 𝓤 (sem 𝓛 (part_at (Array (R E) n) full_share xs b o)) (sem 𝓛 (froom (bare (ty_array (elτ E) (c - n))) b (o + n * s)))) (sem 𝓛 (Room c o))
  emptied n c xs le =
      qed 𝓛 (‵ (part_at (Array (R E) n) full_share xs b o) ∷ ‵ (Room (c - n) (o + n * s)) ∷ []) ∵ move ! (1 ∷ []) $
      as_written ! (ty_array (elτ E) (c - n)) b (o + n * s) $ move ! (1 ∷ 0 ∷ []) $
      use2 𝓛 (‵ (froom (ty_array (elτ E) c) b o)) (rows.all_room E 𝓛 b o n c xs le) $ as_raw ! (ty_array (elτ E) c) b o $ done !

  -- one value is put behind the others
  module _ (h : Hd E) (c : ℕ) (xs : List (el_x E)) where
    abbrev Token : Fml
    Token = token E.al h (bare (ty_array (elτ E) c)) (block_ptr b o)

    -- the values xs and room behind them, by the count of the values
    abbrev pub Parts : List (el_x E) → ℕ → Fml
    Parts ys n = fsep (part_at (Array (R E) n) full_share ys b o) (fsep (Room (c - n) (o + n * s)) Token)

    -- room for a value, and what is left without it
    abbrev pub Left : ℕ → Fml
    Left n = fsep (part_at (Array (R E) n) full_share xs b o) (fsep (Room (c - (n + 1)) (o + (n + 1) * s)) Token)

    pub next_out : (n : ℕ) → n < c → ent 𝓤 (sem 𝓛 (Parts xs n)) (sep 𝓤 (H.room (elτ E) b (n * s + o)) (sem 𝓛 (Left n)))
    next_out n less =
        qed 𝓛 (‵ (Parts xs n) ∷ []) ∵ fsplit3 ! $ move ! (1 ∷ []) $ as_written ! (ty_array (elτ E) (c - n)) b (o + n * s) $
        use1 𝓛 (‵ (froom (elτ E) b (n * s + o)) ⊛ ‵ (froom (ty_array (elτ E) (c - (n + 1))) b (o + (n + 1) * s))) (rows.spare E 𝓛 b o n c less) $ split ! $
        move ! (1 ∷ []) $ as_raw ! (ty_array (elτ E) (c - (n + 1))) b (o + (n + 1) * s) $ move ! (2 ∷ 0 ∷ 3 ∷ []) $ fjoin3 ! $ move ! (1 ∷ 0 ∷ []) $ done !

    pub next_in : (n : ℕ) (y : el_x E) (v : Val) → n ≡ length xs
        → ent 𝓤 (sep 𝓤 (H.at full_share (elτ E) b (n * s + o) v) (sep 𝓤 (sem 𝓛 (E.row.own_val y (v ∷ []))) (sem 𝓛 (Left n)))) (sem 𝓛 (Parts (xs ++ y ∷ []) (length (xs ++ y ∷ []))))
    next_in n y v long =
        let more : n + 1 ≡ length (xs ++ y ∷ []) = omega (arith, length-append xs (y ∷ [])) in
        qed 𝓛 (‵ (fat full_share (elτ E) b (n * s + o) v) ∷ ‵ (E.row.own_val y (v ∷ [])) ∷ ‵ (Left n) ∷ []) ∵
        use2 𝓛 (‵ (part_at (R E) full_share y b (n * s + o))) (rows.el_in E 𝓛 full_share y b (n * s + o) v) $ move ! (1 ∷ []) $ fsplit3 ! $ move ! (0 ∷ 3 ∷ []) $
        use2 𝓛 (‵ (part_at (Array (R E) (n + 1)) full_share (xs ++ y ∷ []) b o)) (rows.snoc E 𝓛 b o n xs y) $ fjoin3 ! $
        rewrite ! 0 (λ (k : ℕ). ‵ (Parts (xs ++ y ∷ []) k)) more refl $ done !

    -- the first n values stay, and the others leave room
    pub cut_at : (n : ℕ) → n ≤ length xs → length xs ≤ c → ent 𝓤 (sem 𝓛 (Parts xs (length xs))) (sem 𝓛 (Parts (take n xs) (length (take n xs))))
    cut_at n le fit =
        let m = length xs in let front = take n xs in let back = drop_l n xs in let k = length front in let j = length back in
        let kept : k ≡ n = length-take-le n xs le in let gone : j ≡ m - n = length-drop n xs in let all : k + j ≡ m = omega arith in
        let here : place s o k ≡ o + k * s = place_is s o k ∙ add_comm (k * s) o in
        let there : o + m * s ≡ (o + k * s) + j * s = ap (λ (i : ℕ). o + i * s) (sym all) ∙ ap (λ (i : ℕ). o + i) (add_times k j s) ∙ sym (add_assoc o (k * s) (j * s)) in
        qed 𝓛 (‵ (Parts xs m) ∷ []) ∵ fsplit3 ! $
        use1 𝓛 (given (m ≡ m) (‵ (row (R E) full_share xs b o))) (rows.apart E 𝓛 full_share m xs b o) $ learn ! (λ _.
        rewrite ! 0 (λ (ys : List (el_x E)). ‵ (row (R E) full_share ys b o)) (sym (take-append-drop n xs)) refl $
        use1 𝓛 (‵ (row (R E) full_share front b o) ⊛ ‵ (row (R E) full_share back b (place s o k))) (rows.row_cut E 𝓛 full_share front back b o) $ split ! $
        use1 𝓛 (‵ (part_at (Array (R E) k) full_share front b o)) (rows.whole E 𝓛 full_share k front b o refl) $ move ! (1 ∷ 2 ∷ []) $
        use1 𝓛 (‵ (froom (ty_array (elτ E) j) b (place s o k))) (rows.row_room E 𝓛 back b (place s o k)) $ rewrite ! 0 (λ (i : ℕ). ‵ (froom (ty_array (elτ E) j) b i)) here refl $
        move ! (1 ∷ []) $ as_written ! (ty_array (elτ E) (c - m)) b (o + m * s) $ rewrite ! 0 (λ (i : ℕ). ‵ (froom (ty_array (elτ E) (c - m)) b i)) there refl $ move ! (1 ∷ 0 ∷ []) $
        use2 𝓛 (‵ (froom (ty_array (elτ E) (c - k)) b (o + k * s))) (rows.glued E 𝓛 j (c - m) (c - k) b (o + k * s) (omega arith)) $
        as_raw ! (ty_array (elτ E) (c - k)) b (o + k * s) $ move ! (1 ∷ 0 ∷ []) $ fjoin3 ! $ done !)
