-- The terms that aim at wanted totals: a loop that works out each seat's base and place, and what its end tells. Assumes nothing.
use mathlib.Core.Path.{◌≡◌, sym, ◌∙◌}
use mathlib.Core.List.{List}
use Prim.Native.Nat.{ℕ, ◌-◌, ◌≤◌, ◌<◌}
use native.Mathlib.Omega.{arith}
use lib.ListN.{get_or, replicate, get_or-replicate}
use Rattle.lists.proofs.Arrays.{Filled, filled_at}
use Rattle.fairness.specs.Instance.{Instance}
use Rattle.fairness.specs.Aiming.{aimed}
use Rattle.model.specs.Book.{Grid}
use Rattle.instance.specs.declared.Terms.{Terms}
use Rattle.instance.specs.Terms.{Told, Ranged}
use Rattle.wants.specs.Steps.{most_total}

-- the first k bases and places are known
abbrev pub Known : Terms → (wants bs₀ ps₀ : List ℕ) (k : ℕ) (bs ps : List ℕ) → Type 0
Known t wants bs₀ ps₀ k bs ps =
    Filled (λ i b. b ≡ most_total - get_or wants i 0) 0 32 t.seats bs₀ k bs × Filled (λ i p. p ≡ i) 0 32 t.seats ps₀ k ps

module _ (t : Terms) (wants bs₀ ps₀ : List ℕ) (k : ℕ) (bs ps : List ℕ) (l : t.seats ≤ k) (known : Known t wants bs₀ ps₀ k bs ps)
    (ranged : Ranged t) where
  abbrev made : Terms
  made =
      record {
        seats = t.seats;
        windows = t.windows;
        supplies = t.supplies;
        weights = replicate 32 1;
        bases = bs;
        positions = ps;
      }

  base-at : (i : ℕ) → i < t.seats → get_or bs i 0 ≡ most_total - get_or wants i 0
  base-at = filled_at known.0 l

  place_at : (i : ℕ) → i < t.seats → get_or ps i 0 ≡ i
  place_at = filled_at known.1 l

  weight-at : (i : ℕ) → i < t.seats → ◌≡◌ {A = ℕ} (get_or (replicate 32 1) i 0) 1
  weight-at i li = get_or-replicate 32 i 1 0 (omega (arith, ranged.seats_most))

  pub aim-ranged : Ranged made
  aim-ranged =
      record {
        seats_most = ranged.seats_most;
        windows_most = ranged.windows_most;
        supplies_most = ranged.supplies_most;
        weights_least = λ i li. omega (arith, weight-at i li);
        weights_most = λ i li. omega (arith, weight-at i li);
        bases_most = λ i li. omega (arith, base-at i li);
        positions_differ = λ i j li lj e. sym (place_at i li) ∙ e ∙ place_at j lj;
      }

  pub aim-told : (I : Instance) (caps : Grid) → Told I t caps → Told (aimed I (λ i. get_or wants i 0) most_total) made caps
  aim-told I caps told =
      record {
        seats_are = told.seats_are;
        windows_are = told.windows_are;
        caps_are = told.caps_are;
        supplies_are = told.supplies_are;
        weights_are = λ i li. sym (weight-at i li);
        bases_are = λ i li. sym (base-at i li);
        positions_are = λ i li. sym (place_at i li);
      }
