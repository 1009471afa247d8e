-- What `find` is asked.
use Rattle.std.specs.Prelude.{◌≡◌, ◌&&◌, ◌||◌, ℕ, Bool, MatchBool, Option, Some, None, Result, Err, not}
use Rattle.ls_class_programs.specs.declared.choosing.Choosing.{Choosing}
use Rattle.ls_command_line.specs.declared.words.Seeking.{Seeking}
use Rattle.ls_faults.specs.declared.fault.ToolFault.{ToolFault}
use Rattle.ls_faults.specs.declared.fault.ToolFault.TheVariants as faults
use Rattle.ls_find_commands.specs.Found.{FindsTo, PrintsTo}
use Rattle.ls_find_commands.specs.declared.command.Range.{Range}
use Rattle.ls_report.specs.Events.{Text}

-- which class of the text is chosen, and what its programs may be
abbrev pub choosing_of : Seeking → Choosing
choosing_of s = record {
  class = s.class;
  values = s.values;
  given = record { first = s.first_given; last = s.last_given };
  bounds = record { threads = s.threads; calls = s.calls; setup = s.setup };
}

-- the numbers of the programs that are looked through
abbrev pub range_of : Seeking → Range
range_of s = record {
  states = s.states;
  sought = record { waiting = s.waiting; turning = s.turning; set = s.set };
  strict = s.strict;
  races = s.races;
  from = s.from;
  to = s.to;
}

-- data races are looked for, and an option is given for what is looked for else
abbrev pub is_mixed : Seeking → Bool
is_mixed s = s.races && (s.set || (s.strict || not (s.waiting && s.turning)))

-- the first program that is bad; data races are looked for alone
abbrev pub FindsFirst : Seeking → Option Text → Text → Option Text → Result Text ToolFault → Type 0
FindsFirst s reference classes menu answer =
    MatchBool (is_mixed s) (answer ≡ Err faults.BadOptions)
    (FindsTo (choosing_of s) (range_of s) reference classes menu answer)

-- one program is printed, or the first is found that is bad
abbrev pub asked_for : Seeking → Option ℕ → Option Text → Text → Option Text → Result Text ToolFault → Type 0
asked_for s None reference classes menu answer = FindsFirst s reference classes menu answer
asked_for s (Some n) reference classes menu answer = PrintsTo (choosing_of s) n reference classes menu answer

-- on a class text, and on a reference and a menu that is written by hand if they are given
abbrev pub OnClass : Seeking → Option Text → Text → Option Text → Result Text ToolFault → Type 0
OnClass s reference classes menu answer = asked_for s s.print reference classes menu answer

-- the same by a reference, which histories of a set don't go with
abbrev pub OnClassLike : Seeking → Option Text → Text → Option Text → Result Text ToolFault → Type 0
OnClassLike s reference classes menu answer =
    MatchBool s.set (answer ≡ Err faults.BadOptions) (OnClass s reference classes menu answer)
