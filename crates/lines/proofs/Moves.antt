-- Moves as chunks of three bytes.
use Rattle.std.proofs.Common.{◌≡◌, ℕ, zero, suc, ◌+◌, ◌*◌, ◌<◌, List, [], get_or, drop, arith, refl, ap, ◌∙◌}
use Rattle.std.proofs.lemmas.List.{get_or-take, get_or-drop}
use Rattle.std.specs.Simd.{first_chunks}
use Rattle.lines.specs.Lines.{move_line, move_at}

-- byte i of chunk k
chunk_at : (moves : List ℕ) (n k i : ℕ) → k < n → i < 3 → get_or (get_or (first_chunks 3 n moves) k []) i 0 ≡ get_or moves (k * 3 + i) 0
chunk_at moves zero k i h l = absurd (omega arith)
chunk_at moves (suc n) zero i h l = get_or-take 3 moves i 0 l ∙ ap (λ (j : ℕ). get_or moves j 0) (omega arith)
chunk_at moves (suc n) (suc k) i h l =
    chunk_at (drop 3 moves) n k i (omega arith) l ∙ get_or-drop 3 moves (k * 3 + i) 0
    ∙ ap (λ (j : ℕ). get_or moves j 0) {x = 3 + (k * 3 + i)} {y = suc k * 3 + i} (omega arith)

-- chunk k has the numbers of move k
pub move_of_chunk : (moves : List ℕ) (n k : ℕ) → k < n → let move = get_or (first_chunks 3 n moves) k [] in
    move_line (get_or move 0 0) (get_or move 1 0) (get_or move 2 0) ≡ move_at moves k
move_of_chunk moves n k h =
    let giver = chunk_at moves n k 1 h (omega arith) in
    let taker = chunk_at moves n k 2 h (omega arith) in
    let window = chunk_at moves n k 0 h (omega arith) in
    let start : k * 3 + 0 ≡ k * 3 = omega arith in
    rw (window, giver, taker, start) refl
