-- One read or one write after another. Assumes nothing.
use Rattle.std.proofs.Common.{◌≡◌, ℕ, ◌+◌, ◌-◌, ◌≤◌, List, [], ◌++◌, length, take, drop, slice_range, sym, ap, ◌∙◌, subst, arith, le_refl}
use Rattle.std.proofs.Common.{drop_at, length-take-le, append_assoc, take-append-drop}
use Rattle.std.proofs.Math.Seq.{take-append_seam}
use Rattle.std.proofs.lemmas.Slice.{take-put_mid_below}
use Rattle.std.specs.declared.option.Option.{Option}
use Rattle.std.specs.Io.KnownBytes.{Appends, Consumes}
use Rattle.std.specs.Prelude.{OnOk, OnErr, Ok, Err}
use Rattle.std.specs.declared.result.Result.{Result}
use Rattle.std.proofs.KnownBytes.{Appends-nil, Appends-trans, Consumes-trans}
use borrow.Rule.Slice.PartMut.{put_mid, post_of}
use lib.Seq.{take-add, take-append-le}
use Rattle.streams.specs.Streams.{AppendsFront, AppendsSome}

-- ---- writes

-- what was written is a front of the bytes
pub front-of : (a b : Option (List ℕ)) (bytes done rest : List ℕ) → bytes ≡ done ++ rest → Appends a b done → AppendsFront a b bytes
front-of a b bytes done rest e p = (length done, subst (Appends a b) (sym (ap (take (length done)) e ∙ take-append_seam done rest)) p)

-- one write more, of the first n bytes of the rest
pub one-more : (bytes done rest : List ℕ) (n : ℕ) → bytes ≡ done ++ rest →
    bytes ≡ (done ++ take n rest) ++ drop n rest
one-more bytes done rest n e =
    e ∙ ap (λ l. done ++ l) (sym (take-append-drop n rest)) ∙ sym (append_assoc done (take n rest) (drop n rest))

-- ---- reads

take_split : (a b : ℕ) (old new : List ℕ) → a ≤ b → take a new ≡ take a old → take a old ++ slice_range new a b ≡ take b new
take_split a b old new h front =
    let same : a + (b - a) ≡ b = omega arith in
    ap (λ l. l ++ slice_range new a b) (sym front) ∙ sym (take-add a (b - a) new) ∙ ap (λ n. take n new) same

slice_range-put_mid : (a k n : ℕ) (xs ys : List ℕ) → a ≤ length xs → n ≤ length ys → slice_range (put_mid a k xs ys) a (a + n) ≡ take n ys
slice_range-put_mid a k n xs ys within fits =
    let same : (a + n) - a ≡ n = omega arith in
    let after = post_of a k xs in
    ap (take ((a + n) - a)) (drop_at (take a xs) (ys ++ after) a (length-take-le a xs within)) ∙ ap (λ m. take m (ys ++ after)) same
    ∙ take-append-le n ys after fits

-- one read more, of n bytes behind the first a
pub one-read : (was is now : Option (List ℕ)) (a k n : ℕ) (buf part : List ℕ) → a ≤ length buf → n ≤ length part →
    Consumes was is (take a buf) → Consumes is now (take n part) → Consumes was now (take (a + n) (put_mid a k buf part))
one-read was is now a k n buf part within fits p q =
    let joined = take_split a (a + n) buf (put_mid a k buf part) (omega arith) (take-put_mid_below _ _ _ _ _ (le_refl _) within) in
    subst (Consumes was now) (ap (λ l. take a buf ++ l) (sym (slice_range-put_mid a k n buf part within fits)) ∙ joined)
    (Consumes-trans _ _ _ _ _ p q)

-- what a read leaves of the first a bytes
pub none-read : (was now : Option (List ℕ)) (a k : ℕ) (buf part : List ℕ) → a ≤ length buf → Consumes was now (take a buf) →
    Consumes was now (take a (put_mid a k buf part))
none-read was now a k buf part within p = subst (Consumes was now) (sym (take-put_mid_below _ _ _ _ _ (le_refl _) within)) p

-- ---- some bytes

pub some_none : (a : Option (List ℕ)) → AppendsSome a a
some_none a = record { bytes = []; appends = Appends-nil a }

pub some_more : (a b c : Option (List ℕ)) → AppendsSome a b → AppendsSome b c → AppendsSome a c
some_more a b c p q = record { bytes = p.bytes ++ q.bytes; appends = Appends-trans a b c _ _ p.appends q.appends }

pub some_written : {E : Type 0} (r : Result (Unit {0}) E) (a b : Option (List ℕ)) (bytes : List ℕ) → OnOk r (Appends a b bytes) →
    OnErr r (AppendsFront a b bytes) → AppendsSome a b
some_written (Ok x) a b bytes p q = record { bytes = bytes; appends = p }
some_written (Err e) a b bytes p q = record { bytes = take q.0 bytes; appends = q.1 }
