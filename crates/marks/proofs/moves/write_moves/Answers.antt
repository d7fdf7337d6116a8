-- `marks::moves::write_moves` meets its contract. Each turn writes one move.
use native.Mathlib.Omega.{arith}
use lib.ListN.{get_or}
use Rattle.sheet.specs.declared.Move.{Move}
use Rattle.sheet.specs.Sheets.{move_of}
use Rattle.exchange.specs.Paths.{InByte}
use Rattle.marks.proofs.Coding.{coded_none, coded-more, coded-all, byte_at}
use Rattle.marks.proofs.moves.write_moves.Goals.{In-loop-i}
use Rattle.marks.proofs.moves.write_moves.Goals as goal

abbrev zero_move : Move
zero_move = record { window = 0; giver = 0; taker = 0 }

-- the move of a turn
turn : (c : In-loop-i) → InByte (move_of (get_or c.moves-m-items.result.now c.loop-i.i zero_move))
turn c = byte_at c.args.path.now c.requires.writable _ c.moves-m-items.ensures c.loop-i.i zero_move c.loop-i-test.true

pub loop-i-init : goal.loop-i-init
loop-i-init c = coded_none c.moves-m-items.result.now _

pub loop-i-preserved : goal.loop-i-preserved
loop-i-preserved c = coded-more c.moves-m-items.result.now c.loop-i.i zero_move c.loop-i-test.true c.loop-i.invariant

pub returns : goal.returns
returns c =
    let l = c.loop-i in
    coded-all c.args.path.now c.requires.writable _ c.moves-m-items.ensures l.i c.loop-i-test.false c.requires.count_in_bounds l.invariant
    l.auto.i-end

pub overflow_cast-out : goal.overflow_cast-out
overflow_cast-out c = omega (arith, (turn (goal.at.overflow_cast-out c).In-loop-i).window)

pub overflow_add-out : goal.overflow_add-out
overflow_add-out c = omega (arith, (turn (goal.at.overflow_add-out c).In-loop-i).window)

pub overflow_cast-out-in-loop-i : goal.overflow_cast-out-in-loop-i
overflow_cast-out-in-loop-i c = omega (arith, (turn (goal.at.overflow_cast-out-in-loop-i c).In-loop-i).giver)

pub overflow_add-out-in-loop-i : goal.overflow_add-out-in-loop-i
overflow_add-out-in-loop-i c = omega (arith, (turn (goal.at.overflow_add-out-in-loop-i c).In-loop-i).giver)

pub overflow_cast-out-in-loop-i-2 : goal.overflow_cast-out-in-loop-i-2
overflow_cast-out-in-loop-i-2 c = omega (arith, (turn (goal.at.overflow_cast-out-in-loop-i-2 c).In-loop-i).taker)

pub overflow_add-out-in-loop-i-3 : goal.overflow_add-out-in-loop-i-3
overflow_add-out-in-loop-i-3 c = omega (arith, (turn (goal.at.overflow_add-out-in-loop-i-3 c).In-loop-i).taker)
