-- What is wrong where a limit isn't kept, and which numbers are taken.
use Rattle.std.specs.Prelude.{List, ℕ, [], codes}
use Rattle.ls_lowered.specs.declared.fault.LowerFault.TheVariants as lower
use Rattle.ls_emit.specs.declared.fault.EmitFault.TheVariants as emit
use Rattle.ls_linker.specs.declared.fault.LinkFault.TheVariants as link
use Rattle.ls_linker.specs.declared.fault.BuildFault.{BuildFault}
use Rattle.ls_linker.specs.declared.fault.BuildFault.TheVariants as build
use Rattle.ls_machine.specs.declared.fault.LoadFault.{LoadFault}
use Rattle.ls_machine.specs.declared.fault.LoadFault.TheVariants as load
use Rattle.ls_translation.specs.declared.fault.TranslationFault.{TranslationFault}
use Rattle.ls_translation.specs.declared.fault.TranslationFault.TheVariants as translation
use Rattle.ls_live.specs.declared.fault.LiveFault.TheVariants as opening
use Rattle.ls_live.specs.declared.fault.PlayFault.{PlayFault as LiveFault}
use Rattle.ls_live.specs.declared.fault.PlayFault.TheVariants as live
use Rattle.ls_live.specs.declared.follow_fault.FollowFault.TheVariants as follow
use Rattle.ls_live.specs.declared.follow_fault.TapeFault.{TapeFault as TurnsFault}
use Rattle.ls_live.specs.declared.follow_fault.TapeFault.TheVariants as turns
use Rattle.ls_class_programs.specs.declared.fault.ClassFault.{ClassFault}
use Rattle.ls_class_programs.specs.declared.fault.ClassFault.TheVariants as class
use Rattle.ls_batch.specs.declared.fault.BatchFault.{BatchFault}
use Rattle.ls_batch.specs.declared.fault.BatchFault.TheVariants as batch
use Rattle.ls_explore.specs.declared.fault.ExploreFault.{ExploreFault}
use Rattle.ls_explore.specs.declared.fault.ExploreFault.TheVariants as explore
use Rattle.ls_tallies.specs.declared.fault.TallyFault.TheVariants as tally
use Rattle.ls_faults.specs.declared.fault.ToolFault.{ToolFault}
use Rattle.ls_faults.specs.declared.fault.ToolFault.TheVariants as faults

-- how many cells are taken
abbrev pub cells_text : List ℕ
cells_text = codes "expected `--cells` 1 to 4194304, and no fewer than the setup has names\n"

abbrev pub build_limit : BuildFault → List ℕ
build_limit (build.Lower lower.Memory) = []
build_limit (build.Lower lower.TooManyLocals) =
    codes "too many locals: a method has at most 128, with those that its operations take\n"
build_limit (build.Lower lower.TooManyCopies) =
    codes "too many `finally` blocks in one another: a method has at most 4,096 copies of them\n"
build_limit (build.Emit emit.Memory) = []
build_limit (build.Emit emit.CodeTooLong) = codes "this method is too long: it has at most 65,536 instructions\n"
build_limit (build.Link link.Memory) = []
build_limit (build.Link link.CodeTooLong) =
    codes "the class text is too long: all methods have at most 65,536 instructions\n"

abbrev pub cells_limit : LoadFault → List ℕ
cells_limit load.Memory = []
cells_limit load.BadCells = cells_text

abbrev pub translation_limit : TranslationFault → List ℕ
translation_limit translation.Memory = []
translation_limit translation.BadCells = cells_text
translation_limit (translation.DoesNotFit step) =
    codes "what this step makes has no room: the number is that of the step, and `--cells` gives more\n"
translation_limit translation.ResultTooLong =
    codes "too many steps: the schedule that is to be printed has over 1,000,000\n"

abbrev pub live_limit : LiveFault → List ℕ
live_limit (live.Open opening.Memory) = []
live_limit (live.Open opening.BadCells) = cells_text
live_limit (live.Open opening.BadLimit) = codes "expected `--limit` at most 1000000\n"
live_limit live.NoThread = codes "the system starts no further thread\n"
live_limit live.Disagree = codes "a thread has another number of steps than the record\n"

abbrev pub turns_limit : TurnsFault → List ℕ
turns_limit (turns.Load f) = cells_limit f
turns_limit (turns.Follow follow.Memory) = []
turns_limit (turns.Follow follow.NoThread) = codes "the system starts no further thread\n"
turns_limit (turns.Follow (follow.TurnsSpent place)) =
    codes "a thread has waited too long for its turn at this step of the schedule\n"

abbrev pub batch_limit : BatchFault → List ℕ
batch_limit batch.Memory = []
batch_limit batch.BadCells = cells_text
batch_limit batch.BadCount =
    codes "expected `--count` 1 to 100000, `--steps` at most 900000, `--switch` 1 to 900000, and seeds below 2^64\n"

abbrev pub explore_limit : ExploreFault → List ℕ
explore_limit explore.Memory = []
explore_limit explore.BadCells = cells_text
explore_limit explore.BadStates = codes "expected `--states` 1 to 16777216, and at most 200000 of `page`\n"
explore_limit explore.SetupEndless =
    codes "the setup hasn't ended in 100,000 steps: look for a loop that doesn't end\n"
explore_limit (explore.Setup f) = translation_limit f

abbrev pub class_limit : ClassFault → List ℕ
class_limit class.Memory = []
class_limit (class.Text f) = []
class_limit class.NotOneClass =
    codes "expected one class that no other class names: `--class 2` takes the second of the text\n"
class_limit class.NoMaking =
    codes "the constructor takes a reference: write one that takes `int` and `boolean` alone, or nothing\n"
class_limit class.NoCalls =
    codes "a method that isn't private must take and return only `int`, `boolean` or nothing: write one; or fill the menu\n"
class_limit class.BadBounds =
    codes "expected `--threads` 1 to 4, `--calls` 1 to 4, `--setup` at most 8, and `--values` and `--new` 1 to 9\n"
class_limit class.TooManyCalls =
    codes "too many lists of arguments: a method has at most 1,000, so take fewer `--values`\n"
class_limit class.TooManyPrograms =
    codes "too many programs: at most 1,000,000, so take fewer `--calls`, `--setup` or `--values`\n"

-- what is said of a fault of a limit; of others nothing
abbrev pub limit_sentence : ToolFault → List ℕ
limit_sentence (faults.Build f) = build_limit f
limit_sentence faults.BadCells = cells_text
limit_sentence (faults.Translation f) = translation_limit f
limit_sentence (faults.Live f) = live_limit f
limit_sentence (faults.Turns f) = turns_limit f
limit_sentence (faults.Batch f) = batch_limit f
limit_sentence (faults.Explore f) = explore_limit f
limit_sentence (faults.Class f) = class_limit f
limit_sentence faults.BadNumbers =
    codes "no program has one of these numbers, or the ranges don't follow one another\n"
limit_sentence (faults.Tally tally.CountTooGreat) = codes "the counts come to 2^64 or more\n"
limit_sentence (faults.Tally tally.OtherCount) =
    codes "the counts, or the numbers of the ranges, don't come to `--count`\n"
limit_sentence faults.TooManyTrapped =
    codes "too many trapped calls: an order is looked for if an item has at most 12\n"
limit_sentence _ = []
