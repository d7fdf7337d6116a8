-- `search::find` meets its contract.
use borrow.Author.Rules.{rules}
use native.Mathlib.Omega.{arith}
use Rattle.std.specs.Prelude.{Some}
use Rattle.search.proofs.Answering.{is-first, on-path, one-or-other}
use Rattle.search.proofs.find.Goals as goal

pub returns : goal.returns
returns c =
    let p = c.in_ok-pair.pair in
    let first = c.first_pair-improving in
    let of = one-or-other _ _ (Some p) _ (λ q. search rules) first.result first.ensures c.in_ok-pair.ensures in
    on-path _ _ p.kind _ _ _ of c.shortest-path.ensures

pub shortest-path-requires : goal.shortest-path-requires
shortest-path-requires c =
    let p = c.in_ok-pair.pair in
    let first = c.first_pair-improving in
    let of = one-or-other _ _ (Some p) _ (λ q. search rules) first.result first.ensures c.in_ok-pair.ensures in
    let pair = is-first _ _ p.kind _ _ of in
    (omega (arith, pair.seat), pair.donor.0)
