-- `paths::layers` meets its contract. Each turn keeps what so many moves reach.
use borrow.Author.Rules.{rules}
use mathlib.Core.Path.{◌≡◌, refl}
use mathlib.Core.Logic.{inl}
use Prim.Native.Nat.{◌+◌}
use native.Mathlib.Omega.{arith}
use Rattle.lists.proofs.Arrays.{filled-first, filled_next, filled_at}
use Rattle.reach.specs.Graphs.{Spread}
use Rattle.reach.proofs.Waves.{Growing, still, growing-first, growing-next}
use Rattle.paths.proofs.Spreading.{holds, all-in}
use Rattle.paths.proofs.layers.Goals as goal
use Rattle.paths.proofs.layers.Goals.{then-wave-ne0, else-wave-ne0}

pub loop-set-init : goal.loop-set-init
loop-set-init c =
    let spread = c.start-wave.ensures.here in
    record {
      so_far = filled-first refl (search rules);
      spread = spread;
      growing = growing-first _ _ _ c.requires spread;
      fits = search rules;
    }

pub outward-wave-requires : goal.outward-wave-requires
outward-wave-requires c = c.loop-set.invariant.spread.few

pub loop-set-preserved : goal.loop-set-preserved
loop-set-preserved c =
    let at = c.loop-set in
    let inv = at.invariant in
    let a = c.args in
    let next : Spread a.graph.now a.g (at.set-index + 1) c.if-wave-ne0.wave × Growing (at.set-index + 1) c.if-wave-ne0.wave =
    elim c.if-wave-ne0.branch [
      | then-wave-ne0 w ↦
          let grown = w.outward-wave.ensures in
          rw w.wave-is (grown.by_index _ _ inv.spread, growing-next _ _ _ grown.grown inv.growing (omega arith) (search rules))
      | else-wave-ne0 w ↦
          let done = w.if-wave-ne0.false in
          rw w.wave-is (still _ _ _ _ inv.spread done, inl done)
    ] in
    record {
      so_far = filled_next inv.so_far (search rules) (holds _ _ _ _ inv.spread inv.growing);
      spread = next.0;
      growing = next.1;
      fits = elim c.if-wave-ne0.branch [ then-wave-ne0 w ↦ rw w.wave-is (search rules) | else-wave-ne0 w ↦ rw w.wave-is inv.fits ];
    }

pub returns : goal.returns
returns c =
    let at = c.loop-set in
    let inv = at.invariant in
    let end : at.set-index ≡ 32 = omega arith in
    let done = filled_at inv.so_far (search rules) in
    record {
      layers = λ r h. (done r h).layer;
      all = all-in _ _ _ at.wave (done 31 (omega arith)) (rw end at inv.spread) (rw end at inv.growing) inv.fits;
    }
