-- What the search answers, from what it finds in memory. Assumes nothing.
use mathlib.Core.Path.{◌≡◌}
use mathlib.Core.List.{List, [], ◌∷◌}
use Prim.Native.Nat.{ℕ, ◌≤◌}
use Rattle.std.specs.Prelude.{Option, None, Some, IfSome}
use lib.ListN.{length}
use native.Mathlib.Omega.{arith}
use Rattle.fairness.specs.Instance.{Instance, Sheet}
use Rattle.fairness.specs.Exchange.{Move, All, Possible, Exchange}
use Rattle.model.specs.Book.{Grid, cell}
use Rattle.instance.specs.declared.Terms.{Terms}
use Rattle.instance.specs.Terms.{instance_in, Told, Shows, Ranged}
use Rattle.instance.proofs.Told.{told_in, shows-itself}
use Rattle.reach.specs.declared.Graph.{Graph}
use Rattle.paths.specs.declared.Path.{Path}
use Rattle.paths.specs.Paths.{moves_of, Nearest}
use Rattle.paths.specs.Steps.{Drawn}
use Rattle.receiver.specs.declared.Kind.{Kind}
use Rattle.receiver.specs.declared.Kind.TheVariants.{Improving, WronglyTied}
use Rattle.receiver.specs.declared.Score.{Score}
use Rattle.receiver.specs.Donors.{NoDonor}
use Rattle.search.specs.declared.Exchange as memory
use Rattle.search.specs.Steps.{FirstPath, Found, Finds}
use Rattle.exchange.specs.Paths.{InByte, Writable, Chosen, Answered, Answers}
use Rattle.exchange.proofs.Tests.{test_of, Scored}
use Rattle.exchange.proofs.Choosing.{chosen, nobody}

-- ---- it can be written

possible-in-byte : (I : Instance) (S : Sheet) (ms : List Move) → I.seats ≤ 32 → I.windows ≤ 24 → All (Possible I S) ms → All InByte ms
possible-in-byte I S [] n m a = tt
possible-in-byte I S (x ∷ xs) n m a =
    let p = a.0 in
    let byte : InByte x = record {
      window = omega (arith, p.in_window);
      giver = omega (arith, p.in_giver);
      taker = omega (arith, p.in_taker);
    } in
    (byte, possible-in-byte I S xs n m a.1)

module _ (I : Instance) (S : Sheet) (graph : Graph) (d : Drawn I S graph) (few-seats : I.seats ≤ 32) (few-windows : I.windows ≤ 24) where
  pub writable : (g l : ℕ) (x : Path) → Nearest graph g l x → Writable x
  writable g l x n = record {
    counted = n.counted;
    small = possible-in-byte I S (moves_of x) few-seats few-windows (n.path I S d).possible;
  }

-- ---- the answer

-- what is found can be written, and is right for every instance and sheet that the memory tells and shows
pub record Right (t : Terms) (caps grid : Grid) (found : Option memory.Exchange) : Type 0 where
  pub writable : IfSome found (λ x. Writable x.path)
  pub answers : (I : Instance) (S : Sheet) → Told I t caps → Shows t S grid → Answers I S found

module _ (t : Terms) (caps grid : Grid) (ranged : Ranged t) (scores : List Score) (long : length scores ≡ t.seats) (graph : Graph)
    (scored : (I : Instance) (S : Sheet) → Told I t caps → Shows t S grid → Scored I S scores)
    (drawn : (I : Instance) (S : Sheet) → Told I t caps → Shows t S grid → Drawn I S graph) where
  module _ (kind : Kind) (I : Instance) (S : Sheet) (told : Told I t caps) (shows : Shows t S grid) where
    same-seats : I.seats ≡ length scores
    same-seats = omega (arith, told.seats_are)

    picks : (x : Path) → FirstPath kind scores graph x → Chosen I S (test_of kind I S) x.receiver x.donor (moves_of x)
    picks x f = chosen I S scores (scored I S told shows) kind graph (drawn I S told shows) same-seats _ _ x f.0 f.1

    lacks : NoDonor kind scores graph → Exchange I S (test_of kind I S) → ⊥
    lacks = nobody I S scores (scored I S told shows) kind graph (drawn I S told shows) same-seats

  write : (kind : Kind) (x : Path) → FirstPath kind scores graph x → Writable x
  write kind x f =
      writable (instance_in t caps) (cell grid) graph (drawn _ _ (told_in t caps) (shows-itself t grid))
      ranged.seats_most ranged.windows_most _ _ x f.1

  finds-kind : (kind : Kind) (x : Path) → Found kind scores graph x →
      Writable x × ((I : Instance) (S : Sheet) → Told I t caps → Shows t S grid → Answered I S kind x.receiver x.donor (moves_of x))
  finds-kind Improving x f = (write Improving x f, λ I S told shows. picks Improving I S told shows x f)
  finds-kind WronglyTied x f =
      (write WronglyTied x f.1, λ I S told shows. (lacks Improving I S told shows f.0, picks WronglyTied I S told shows x f.1))

  -- so is what the search finds
  pub finds-right : (found : Option memory.Exchange) → Finds scores graph found → Right t caps grid found
  finds-right None f = record {
    writable = tt;
    answers = λ I S told shows. (lacks Improving I S told shows f.0, lacks WronglyTied I S told shows f.1);
  }
  finds-right (Some x) f = let h = finds-kind x.kind x.path f in record { writable = h.0; answers = h.1 }
