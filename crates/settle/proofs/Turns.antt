-- A loop that plays an exchange path in each turn, until none is left. Assumes nothing.
use mathlib.Core.Path.{◌≡◌, fun_ext}
use mathlib.Core.Bool.{true}
use mathlib.Core.List.{List}
use mathlib.Core.Logic.{◌⊎◌, inl, inr}
use Prim.Native.Nat.{ℕ, ◌<◌}
use Rattle.fairness.specs.Instance.{Instance}
use Rattle.fairness.specs.Exchange.{Move, Path, play_all, improves_at, ties_at, Settled}
use Rattle.fairness.proofs.Theorems.{path-plays, path-feasible, path-full, path-measure, measure}
use Rattle.model.specs.Book.{Grid, cell}
use Rattle.std.specs.Prelude.{None, Some}
use Rattle.paths.specs.Paths.{moves_of}
use Rattle.receiver.specs.declared.Kind.{Kind}
use Rattle.receiver.specs.declared.Kind.TheVariants.{Improving, WronglyTied}
use Rattle.search.specs.declared.Exchange.{Exchange}
use Rattle.exchange.specs.Paths.{Answered, Answers}
use Rattle.instance.specs.declared.Terms.{Terms}
use Rattle.instance.specs.Terms.{instance_in, Told, Small}
use Rattle.instance.proofs.Told.{small-proper, shows-itself, shown-settled}
use Rattle.fill.specs.Fills.{Full}
use Rattle.settle.specs.Playing.{AllPlayable, Plays}
use Rattle.settle.proofs.Playing.{all-playable}

-- ---- the path of a turn

-- it leads from receiver to donor, and improves or ties wrongly
abbrev Leads : Instance → (ℕ → ℕ → ℕ) → ℕ → ℕ → List Move → Type 0
Leads I S g l ms = Path I S g l ms × ((improves_at I S g l ≡ true) ⊎ (ties_at I S g l ≡ true))

leads : (I : Instance) (S : ℕ → ℕ → ℕ) (k : Kind) (g l : ℕ) (ms : List Move) → Answered I S k g l ms → Leads I S g l ms
leads I S Improving g l ms a = (a.path, inl a.passes)
leads I S WronglyTied g l ms a = (a.1.path, inr a.1.passes)

-- ---- a turn

module _ (t : Terms) (caps : Grid) (small : Small t caps) (grid : Grid) (full : Full (instance_in t caps) (cell grid)) where
  abbrev I : Instance
  I = instance_in t caps

  abbrev S : ℕ → ℕ → ℕ
  S = cell grid

  module _ (x : Exchange) (answers : Answers I S (Some x)) where
    abbrev ms : List Move
    ms = moves_of x.path

    way : Leads I S x.path.receiver x.path.donor ms
    way = leads I S x.kind x.path.receiver x.path.donor ms answers

    pub turn-playable : AllPlayable S ms
    turn-playable =
        all-playable I S ms small.ranged.seats_most small.ranged.windows_most small.caps_most
        (path-plays I S x.path.receiver x.path.donor ms way.0)

    module _ (T : ℕ → ℕ → ℕ) (q : Plays S ms T) where
      after : T ≡ play_all S ms
      after = fun_ext (λ i. fun_ext (λ j. q i j))

      pub turn-full : Full I T
      turn-full =
          rw after (record {
            feasible = path-feasible I S x.path.receiver x.path.donor ms way.0 full.feasible;
            unwasted = path-full I S x.path.receiver x.path.donor ms way.0 full.unwasted;
          })

      pub turn-less : measure I T < measure I S
      turn-less =
          rw after
          (path-measure I (small-proper t caps small) S x.path.receiver x.path.donor ms full.feasible way.0 way.1)

  -- no path is left
  pub turn_last : Answers I S None → (J : Instance) → Told J t caps → Settled J S
  turn_last none J told =
      shown-settled t caps J told S grid (shows-itself t grid)
      (record { feasible = full.feasible; full = full.unwasted; fair = none.0; ordered = none.1 })
