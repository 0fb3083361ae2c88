use Rattle.std.proofs.Common.{◌≡◌, false, leb, ⊎_elim, arith, rules}
use Rattle.std.specs.Prelude.{◌≢◌}
use Rattle.std.proofs.lemmas.Bool.{and_parts, leb-true, cases_Bool}
use Rattle.std.proofs.lemmas.Result.{err_from_is_err_and}
use Rattle.rules.specs.declared.shipped.Shipped.{Shipped}
use Rattle.rules.specs.declared.shipped.Shipped.TheVariants.{Permission, Denial, LocalDenial}
use Rattle.rules.specs.Verdicts.{code}
use Rattle.book.specs.declared.contents.Header.{Header}
use Rattle.book.specs.Files.{good_header}
use Rattle.book.proofs.scan.Scan.begin.Goals as goal

-- a header with a code that no policy has
unknown : (h : Header) → ((p : Shipped) → code p ≢ h.policy) → good_header h ≡ false
unknown h none =
    ⊎_elim
    (λ y.
    let w = and_parts _ _ y in
    let r = and_parts (leb 1 h.policy) (leb h.policy 3) w.1 in
    let low = leb-true 1 h.policy r.0 in
    let high = leb-true h.policy 3 r.1 in
    let a = none Permission in
    let b = none Denial in
    let c = none LocalDenial in
    absurd (let z : ⊥ = omega arith in z))
    (λ n. n)
    (cases_Bool (good_header h))

pub returns-in_err-try_from-clause-accepts_a_good_header_that_comes_first : goal.returns-in_err-try_from-clause-accepts_a_good_header_that_comes_first
returns-in_err-try_from-clause-accepts_a_good_header_that_comes_first c =
    let p = err_from_is_err_and c.from_residual.result c.from_residual.ensures.1 in
    let u = unknown c.args.header c.in_err-try_from.ensures.1 in
    rw (p.1, p.2, u) (search rules)
