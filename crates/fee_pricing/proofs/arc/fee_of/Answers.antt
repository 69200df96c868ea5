use Rattle.std.proofs.Common.{◌≡◌, ◌∙◌, ℕ, ℤ, pos, ◌+◌, ◌*◌, ◌+ℤ◌, ◌≤ℤ◌, ◌<◌, ◌≤◌, w64, to_z, of_z, FitsSigned, rules, arith, drop, length, get_or, ap, sym, subst}
use Rattle.std.proofs.lemmas.Int.{ints, to_z-of_z}
use Rattle.std.specs.Prelude.{cond}
use Rattle.tail_book.specs.Ranges.{IsWithin}
use Rattle.quota_rows.specs.declared.quota.Quota.{Quota}
use Rattle.quota_rows.specs.Belongs.{belongs}
use Rattle.quota_rows.specs.Fees.{fee_of}
use Rattle.fee_pricing.proofs.Fees.{due, from_one}
use Rattle.fee_pricing.proofs.arc.fee_of.Goals as goal

-- what stands where there is no quota
abbrev no_quota : Quota
no_quota = record { airport = 0; day = pos 0; below = pos 0; most = 0 }

moved : (sum here first rest whole : ℤ) → (sum +ℤ first) ≡ whole → first ≡ here +ℤ rest → ((sum +ℤ here) +ℤ rest) ≡ whole
moved sum here first rest whole e f = omega (arith, ints, e, f)

grown : (sum here : ℤ) (q : ℕ) → pos 0 ≤ℤ sum → sum ≤ℤ pos (q * 8000000001000) → IsWithin (pos 0) (pos 8000000001000) here
    → (pos 0 ≤ℤ (sum +ℤ here)) × ((sum +ℤ here) ≤ℤ pos ((q + 1) * 8000000001000))
grown sum here q least most within = let p = within.least in let r = within.most in (omega (arith, ints, least, p), omega (arith, ints, most, r))

fits_within : (z : ℤ) (q n : ℕ) → q < n → n ≤ 50 → pos 0 ≤ℤ z → z ≤ℤ pos ((q + 1) * 8000000001000) → FitsSigned w64 z
fits_within z q n less few least most = let le : (q + 1) * 8000000001000 ≤ 400000000050000 = omega (arith, less, few) in omega (arith, ints, least, most, le)

-- one fee more
pub loop-q-preserved : goal.loop-q-preserved
loop-q-preserved c =
    let inv = c.loop-q.invariant in
    let book = c.args.book.now in
    let quotas = c.args.quotas.now in
    let fees = c.args.fees.now in
    let q = c.loop-q.q in
    let sum : ℤ = to_z w64 c.loop-q.sum-bits in
    let here : ℤ = c.fee_by-sum.result in
    let less : q < length quotas = c.loop-q-test.true in
    let fee : ℤ = get_or fees q (pos 0) in
    let fee_fits : FitsSigned w64 fee = search rules in
    let is : here ≡ cond (belongs book (get_or quotas q no_quota) c.args.a c.args.b) fee (pos 0) =
    c.fee_by-sum.ensures ∙ ap (λ (v : ℤ). cond (belongs book (get_or quotas q no_quota) c.args.a c.args.b) v (pos 0)) (to_z-of_z w64 fee fee_fits) in
    let within : IsWithin (pos 0) (pos 8000000001000) here =
    subst (IsWithin (pos 0) (pos 8000000001000)) (sym is)
    (due (belongs book (get_or quotas q no_quota) c.args.a c.args.b) fee 8000000001000 (c.requires.fair q (pos 0) (omega (arith, less, c.requires.one_each)))) in
    let bounds = grown sum here q inv.least inv.most within in
    let here_fits : FitsSigned w64 here = search rules in
    let sum_fits : FitsSigned w64 (sum +ℤ here) = fits_within (sum +ℤ here) q (length quotas) less c.requires.few bounds.0 bounds.1 in
    let now : to_z w64 (of_z w64 (sum +ℤ to_z w64 (of_z w64 here))) ≡ sum +ℤ here =
    ap (λ (v : ℤ). to_z w64 (of_z w64 (sum +ℤ v))) (to_z-of_z w64 here here_fits) ∙ to_z-of_z w64 (sum +ℤ here) sum_fits in
    let step = from_one book quotas fees c.args.a c.args.b q no_quota less c.requires.one_each in
    let rest : ℤ = fee_of book (drop (q + 1) quotas) (drop (q + 1) fees) c.args.a c.args.b in
    record {
      left = subst (λ (s : ℤ). (s +ℤ rest) ≡ fee_of book quotas fees c.args.a c.args.b) (sym now)
          (moved sum here (fee_of book (drop q quotas) (drop q fees) c.args.a c.args.b) rest (fee_of book quotas fees c.args.a c.args.b)
          inv.left (step ∙ ap (λ (v : ℤ). v +ℤ rest) (sym is)));
      least = subst (λ (s : ℤ). pos 0 ≤ℤ s) (sym now) bounds.0;
      most = subst (λ (s : ℤ). s ≤ℤ pos ((q + 1) * 8000000001000)) (sym now) bounds.1;
    }
