use Rattle.std.proofs.Common.{sym, ap, ◌∙◌, ◌++◌, take}
use Rattle.std.proofs.lemmas.List.{take_rest}
use Rattle.std.proofs.KnownBytes.{Appends-trans, Appends-kept}
use Rattle.streams.proofs.Turns.{front-of, one-more}
use Rattle.streams.proofs.write_front.Goals as goal
use Rattle.streams.proofs.write_front.Goals.{in-Ok, in-Err}

pub returns-in-Ok-eq0-clause-front : goal.returns-in-Ok-eq0-clause-front
returns-in-Ok-eq0-clause-front g c =
    let (done, split, appended) = c.loop.invariant in
    front-of _ _ _ _ _ (one-more _ done _ _ split) (Appends-trans _ _ _ _ _ appended (rw c.in-Ok-eq0.is at c.write.ensures.bytes))

pub returns-in-Err-2-clause-front : goal.returns-in-Err-2-clause-front
returns-in-Err-2-clause-front g c =
    let (done, split, appended) = c.loop.invariant in
    front-of _ _ _ _ _ split (Appends-kept _ _ _ _ appended c.in-Err.ensures.bytes)

pub loop-preserved : goal.loop-preserved
loop-preserved g c =
    let (done, split, appended) = c.loop.invariant in
    let rest = c.loop.rest.now in
    elim c.match-write.branch [
      | in-Ok w ↦
          let n = w.in-Ok.n in (
            done ++ take n rest,
            one-more _ done rest n split ∙ ap (λ l. (done ++ take n rest) ++ l) (sym (ap (λ b. b.now) w.rest-is ∙ take_rest rest n)),
            Appends-trans _ _ _ _ _ appended w.in-Ok.ensures.bytes,
          )
      | in-Err w ↦ (
        done,
        split ∙ ap (λ l. done ++ l) (sym (ap (λ b. b.now) w.rest-is)),
        Appends-kept _ _ _ _ appended w.in-Err.ensures.bytes,
      )
    ]

pub returns-clause-front : goal.returns-clause-front
returns-clause-front g c =
    let (done, split, appended) = c.loop.invariant in
    front-of _ _ _ _ _ split appended
