-- A menu that is written by hand: a line for each entry, and in it calls without the object, as `lock(#); unlock(#)`.
use Rattle.std.specs.Prelude.{◌==◌, ◌&&◌, ◌+◌, ℕ, Bool, false, true, List, [], ◌∷◌, ◌++◌, Option, None, Some, cond}
use Rattle.std.specs.Prelude.{codes, length, map, not}
use Rattle.std.specs.List.{filter, slice_split}
use Rattle.std.specs.Str.{bytes_eq, trim}
use Rattle.ls_report.specs.Cut.{cut}
use Rattle.ls_tree.specs.Trees.{Text}

-- an entry: the byte at which its line begins, whether it is one of the setup alone, and its calls, as
-- `s.lock(#); s.unlock(#);`
pub record Entry : Type 0 where
  pub at : ℕ
  pub of_setup : Bool
  pub calls : Text

-- whether a text begins with `//`
abbrev pub opens_comment : Text → Bool
opens_comment [] = false
opens_comment (b ∷ []) = false
opens_comment (b ∷ c ∷ more) = (b == 47) && (c == 47)

-- one more call, unless its text is empty: there is a blank before it, but for the first
abbrev pub and_call : Text → Text → Text
and_call begun [] = begun
and_call [] (c ∷ call) = codes "s." ++ ((c ∷ call) ++ codes ";")
and_call (b ∷ begun) (c ∷ call) = (b ∷ begun) ++ (codes " s." ++ ((c ∷ call) ++ codes ";"))

-- more calls, which have no blanks around them
abbrev pub with_calls : Text → List Text → Text
with_calls begun [] = begun
with_calls begun (call ∷ more) = with_calls (and_call begun (trim call)) more

-- the calls of a line, which `;` separates; none of a comment
abbrev pub line_calls : Text → Text
line_calls line = cond (opens_comment (trim line)) [] (with_calls [] (slice_split (λ b. b == 59) line))

-- The text `setup:` may stand before the calls of a line, which is one of the setup then. So it is said whether, and
-- what stands there of the line's calls.
abbrev pub parted : Text → Option (Text × Text) → Bool × Text
parted line None = (false, line)
parted line (Some p) = cond (bytes_eq (trim p.0) (codes "setup")) (true, p.1) (false, line)

abbrev pub line_parts : Text → Bool × Text
line_parts line = parted line (cut 58 line)

-- a line with no calls is no entry
abbrev pub entry_of : ℕ → Bool → Text → List Entry
entry_of at of_setup [] = []
entry_of at of_setup (c ∷ calls) = record { at = at; of_setup = of_setup; calls = c ∷ calls } ∷ []

abbrev pub line_entry : ℕ → Bool × Text → List Entry
line_entry at parts = entry_of at parts.0 (line_calls parts.1)

-- the entries of lines, of which the first begins at this byte
abbrev pub entries_from : ℕ → List Text → List Entry
entries_from at [] = []
entries_from at (line ∷ more) = line_entry at (line_parts line) ++ entries_from (at + length line + 1) more

abbrev pub entries : Text → List Entry
entries text = entries_from 0 (slice_split (λ b. b == 10) text)

-- ---- which of them the setup chooses, and which threads do

abbrev pub calls_in : Entry → Text
calls_in e = e.calls

abbrev pub is_of_setup : Entry → Bool
is_of_setup e = e.of_setup

abbrev pub is_of_threads : Entry → Bool
is_of_threads e = not e.of_setup

-- the calls of the entries of threads, and of those of the setup alone
abbrev pub thread_entries : Text → List Text
thread_entries menu = map calls_in (filter is_of_threads (entries menu))

abbrev pub own_entries : Text → List Text
own_entries menu = map calls_in (filter is_of_setup (entries menu))

-- these, or those where there are none of these
abbrev pub or_those : List Text → List Text → List Text
or_those [] those = those
or_those (x ∷ these) those = x ∷ these

-- The calls of which threads choose, by those of a menu that are of the setup alone, those that are of threads, and
-- those of the class. If a menu has some of the setup alone, and no others, threads choose of those of the class.
abbrev pub threads_choose : List Text → List Text → List Text → List Text
threads_choose [] written of_class = written
threads_choose (x ∷ own) written of_class = or_those written of_class
