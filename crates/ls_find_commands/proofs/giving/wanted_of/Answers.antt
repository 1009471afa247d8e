-- Why `wanted_of` in src/giving.rt keeps its contract.

use Rattle.ls_find_commands.specs.Giving.{AllWanted, GivenBack, NeverGiven, NotSought}
use Rattle.ls_find_commands.proofs.giving.wanted_of.Goals as goal

pub returns-then-strict : goal.returns-then-strict
returns-then-strict c = AllWanted c.if-strict.true

pub returns-then-not-waiting : goal.returns-then-not-waiting
returns-then-not-waiting c = NotSought c.if-strict.false c.if-not-waiting.true

pub returns-then-some : goal.returns-then-some
returns-then-some c =
    GivenBack c.if-strict.false c.if-not-waiting.false (c.in_ok-some.ensures.one c.if-some.true)

pub returns : goal.returns
returns c = NeverGiven c.if-strict.false c.if-not-waiting.false (c.in_ok-some.ensures.none c.if-some.false)
