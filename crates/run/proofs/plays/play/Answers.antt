-- The loop keeps that the turns left, played from where the code stands, are the whole run.
use Rattle.std.proofs.Common.{rules, refl}
use Rattle.run.proofs.Playing.{starts, ready, goes_on, ends, few_bytes}
use Rattle.run.proofs.plays.play.Goals as goal

pub loop-done-init : goal.loop-done-init
loop-done-init c =
    starts _ _ c.requires.is_script c.begin-s.ensures.left_len _ _ _ _ c.requires.hold (search rules) c.begin-s.ensures.value

pub turn-s-requires : goal.turn-s-requires
turn-s-requires c =
    ready _ _ c.requires.is_script _ _ _ _ _ _ c.loop-done.invariant c.loop-done-test.true _ c.read_turn-t.ensures

pub loop-done-preserved : goal.loop-done-preserved
loop-done-preserved c =
    goes_on _ _ c.requires.is_script _ _ _ _ _ _ c.loop-done.invariant c.loop-done-test.true _ c.read_turn-t.ensures
    _ refl _ _ _ _ c.turn-s.ensures c.turn-s.auto.lines

pub returns-clause-stands : goal.returns-clause-stands
returns-clause-stands c = ends _ _ c.requires.is_script _ _ _ _ _ _ c.loop-done.invariant c.loop-done-test.false

pub returns-clause-end_bound : goal.returns-clause-end_bound
returns-clause-end_bound c = few_bytes _ _ c.requires.is_script _ _ _ _ _ _ c.loop-done.invariant
