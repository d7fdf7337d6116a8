-- What was read, where a reader tells. Assumes nothing.
use Rattle.std.proofs.Common.{◌≡◌, ◌≤◌, List, ◌++◌, ℕ, ◌<◌, take, length, sym, ap, ◌∙◌, arith, append-nil, length-take-le, take_all}
use Rattle.std.specs.Prelude.{IfSome, IfOk, Some, None, Ok, Err}
use Rattle.std.proofs.Math.Seq.{take-append_seam}
use Rattle.std.proofs.Math.Decide.{dec_lt}
use Rattle.std.specs.declared.option.Option.{Option}
use Rattle.std.specs.declared.result.Result.{Result}
use Rattle.std.specs.Io.KnownBytes.{Consumes, IsAtEnd}

-- a buffer that was filled, or into which all was read that there was, has the front of the input
taken-whole : (limit : ℕ) (was now : Option (List ℕ)) (buf : List ℕ) (n : ℕ) → length buf ≡ limit → n ≤ length buf →
    Consumes was now (take n buf) →
    (n < length buf → IsAtEnd now) → IfSome was (λ input. take n buf ≡ take limit input)
taken-whole limit None now buf n long within given end = tt
taken-whole limit (Some input) None buf n long within given end = absurd given
taken-whole limit (Some input) (Some left) buf n long within given end =
    let size : length (take n buf) ≡ n = length-take-le n buf within in
    elim (dec_lt n limit) [
      | yes l ↦
          let all : input ≡ take n buf = given ∙ ap (λ r. take n buf ++ r) (end (omega arith)) ∙ append-nil (take n buf) in
          sym (take_all limit (take n buf) (omega arith)) ∙ ap (take limit) (sym all)
      | no l ↦
          let full : length (take n buf) ≡ limit = omega arith in
          sym (ap (take limit) given ∙ ap (λ k. take k (take n buf ++ left)) (sym full) ∙ take-append_seam (take n buf) left)
    ]

pub taken-told : {E : Type 0} (limit : ℕ) (r : Result ℕ E) (was now : Option (List ℕ)) (buf : List ℕ) → length buf ≡ limit →
    IfOk r (λ n. n ≤ length buf) → IfOk r (λ n. Consumes was now (take n buf)) → IfOk r (λ n. n < length buf → IsAtEnd now) →
    IfOk r (λ n. IfSome was (λ input. take n buf ≡ take limit input))
taken-told limit (Ok n) was now buf long within given end = taken-whole limit was now buf n long within given end
taken-told limit (Err e) was now buf long within given end = tt
