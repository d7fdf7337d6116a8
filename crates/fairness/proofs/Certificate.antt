-- What a search leaves to show that there is no exchange: for each receiver a closed set of seats that has it, none of whose members is to
-- give.
use mathlib.Core.Path.{◌≡◌, sym, subst}
use mathlib.Core.Bool.{Bool, true}
use mathlib.Core.List.{List, [], ◌∷◌}
use Prim.Native.Nat.{ℕ, ◌<◌}
use Rattle.fairness.specs.Instance.{Instance, Sheet}
use Rattle.fairness.specs.Exchange.{Move, Possible, All, Linked, Path, Exchange}
use Rattle.fairness.specs.Cuts.{Closed}
use Rattle.fairness.proofs.Wanted.{not-self, path-ends}

module _ (I : Instance) (S : Sheet) where
  -- no path leaves a closed set
  pub closed-path : (P : ℕ → Type 0) → Closed I S P → (g l : ℕ) (ms : List Move) → P g → Path I S g l ms → P l
  closed-path P closed g l ms x p = along g ms x p.linked p.possible
    where
      along : (g : ℕ) (ms : List Move) → P g → Linked g ms l → All (Possible I S) ms → P l
      along g [] x e a = subst P e x
      along g (m ∷ ms) x e a = along m.giver ms (closed m a.0 (subst P (sym e.0) x)) e.1 a.1

  pub closed-set-no-exchange : (test : ℕ → ℕ → Bool) → ((g : ℕ) → test g g ≡ true → ⊥) → (P : ℕ → ℕ → Type 0) →
      ((g : ℕ) → g < I.seats → P g g) → ((g : ℕ) → g < I.seats → Closed I S (P g)) →
      ((g l : ℕ) → g < I.seats → l < I.seats → P g l → test g l ≡ true → ⊥) → Exchange I S test → ⊥
  closed-set-no-exchange test apart P self closed fails e =
      let other = not-self I S test apart e.receiver e.donor e.wanted in
      let ends = path-ends I S e.receiver e.donor e.moves e.path other in
      let lg = ends.in-receiver in
      fails e.receiver e.donor lg ends.in-donor
      (closed-path (P e.receiver) (closed e.receiver lg) e.receiver e.donor e.moves (self e.receiver lg) e.path)
      e.wanted
