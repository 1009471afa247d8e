-- Completion, jumps, locals and types of the statement.
use Rattle.std.proofs.Common.{◌≡◌, Bool, true, false, ◌&&◌, ◌||◌, refl, arith}
use Rattle.ls_events.specs.declared.value.ValueType.TheVariants as types
use Rattle.ls_meaning.specs.declared.sort.Sort.TheVariants.{NoValue}
use Rattle.ls_types_judgement.specs.Completion.{can_complete, breaks}
use Rattle.ls_soundness.specs.Laws.{CompletesAsItsBlock, BreaksAsItsBlock, JumpsAsItsBlock, TakesThreeMore}
use Rattle.ls_soundness.specs.Laws.{IsTypedByItsParts}

and_true : (a : Bool) → ((a && true) && true) ≡ a
and_true true = refl
and_true false = refl

or_false : (a : Bool) → ((a || false) || false) ≡ a
or_false true = refl
or_false false = refl

-- the law: it completes normally if its block does
pub completes_as_its_block : CompletesAsItsBlock
completes_as_its_block slot class target body = and_true (can_complete body)

-- the law: its breaks are those of its block
pub breaks_as_its_block : BreaksAsItsBlock
breaks_as_its_block slot class n target body = or_false (breaks n body)

-- the law: its jumps are those of its block
pub jumps_as_its_block : JumpsAsItsBlock
jumps_as_its_block slot class n target body h = (tt, (tt, ((h, tt), tt)))

-- the law: it takes three locals more
pub takes_three_more : TakesThreeMore
takes_three_more m slot class target slots e = omega (arith, e)

-- the law: it is typed if its parts are
pub is_typed_by_its_parts : IsTypedByItsParts
is_typed_by_its_parts file slots result slot class target body at typed block = (
  (types.Class class, at, typed),
  (
    (NoValue, (refl, (types.Class class, refl, at), tt)),
    ((block, (NoValue, (refl, (types.Class class, refl, at), tt))), tt),
  ),
)
