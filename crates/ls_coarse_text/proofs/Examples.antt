-- A program text that the law takes.
use Rattle.std.proofs.Common.{◌≡◌, ℕ, zero, suc, ℤ, pos, negsuc, List, [], ◌∷◌, Some, codes, refl, sym, subst}
use Rattle.std.specs.Prelude.{slice_get}
use Rattle.std.proofs.lemmas.Option.{none-some}
use Rattle.ls_lexer.specs.Tokens.{lexed}
use Rattle.ls_events.specs.declared.value.Value.{Value}
use Rattle.ls_events.specs.declared.value.Value.TheVariants as values
use Rattle.ls_events.specs.declared.value.ValueType.TheVariants as types
use Rattle.ls_checked.specs.CheckedProgram.{Program, ProgramCall, ThreadProgram, Making, Calling}
use Rattle.ls_parser.specs.Laws.{OneFile}
use Rattle.ls_types_elaboration.specs.Elaboration.{ElaboratedFile}
use Rattle.ls_types_places.specs.Laws.{NoPlaces}
use Rattle.ls_types_programs.specs.Laws.{ReadsWhatIsSpelled}
use Rattle.ls_types_programs.specs.ThreadPrograms.{program_of}
use Rattle.ls_serial.proofs.Lists.{some_is}
use Rattle.ls_coarse_text.specs.Laws.{HasSmallItems, IsSmall, values_of}
use Rattle.ls_coarse_text.specs.Example.{ExampleIsTaken, IsTaken, example}
use Rattle.ls_coarse_text.proofs.Elaborated.{outcome}
use Rattle.ls_coarse_text.proofs.Text.{is_the_list}
use Rattle.ls_coarse_text.proofs.Histories.{same_ok}

abbrev set_call : ℕ → List ℕ → Value → ProgramCall
set_call method text item = Calling 0 method text (Some types.Boolean) (item ∷ [])

abbrev setup : List ProgramCall
setup = Making 0 1 (codes "CoarseList") [] ∷ []

abbrev program : Program
program = record {
  names = record { name = codes "s"; class = 1 } ∷ [];
  threads = record { name = codes "setup"; calls = setup }
      ∷ record { name = codes "A"; calls = set_call 2 (codes "add") (values.Int (pos 3)) ∷ [] }
      ∷ record {
        name = codes "B";
        calls = set_call 3 (codes "remove") (values.Int (pos 3)) ∷ set_call 4 (codes "contains")
            (values.Int (negsuc 3)) ∷ [];
      } ∷ [];
}

is_read : program_of outcome example ≡ Some program
unfolding lexed
is_read = refl

-- the ints of a call, and those of a thread
abbrev IsSmallCall : ProgramCall → Type 0
IsSmallCall c = (i : ℕ) (v : Value) → slice_get (values_of c) i ≡ Some v → IsSmall v

abbrev AreSmallCalls : List ProgramCall → Type 0
AreSmallCalls cs = (k : ℕ) (c : ProgramCall) → slice_get cs k ≡ Some c → IsSmallCall c

none_small : AreSmallCalls []
none_small k c at = absurd (none-some _ at)

one_more : (c : ProgramCall) (cs : List ProgramCall) → IsSmallCall c → AreSmallCalls cs → AreSmallCalls (c ∷ cs)
one_more c cs first more zero d at = subst IsSmallCall (some_is at) first
one_more c cs first more (suc k) d at = more k d at

setup_small : AreSmallCalls setup
setup_small = one_more (Making 0 1 (codes "CoarseList") []) [] (λ i v at. absurd (none-some _ at)) none_small

-- a call with a small int, before others
one_set : (method : ℕ) (text : List ℕ) (z : ℤ) (cs : List ProgramCall) → IsSmall (values.Int z) → AreSmallCalls cs →
    AreSmallCalls (set_call method text (values.Int z) ∷ cs)
one_set method text z cs small more = one_more (set_call method text (values.Int z)) cs by_place more
  where
    by_place : IsSmallCall (set_call method text (values.Int z))
    by_place zero v at = subst IsSmall (some_is at) small
    by_place (suc i) v at = absurd (none-some _ at)

abbrev OfThread : ThreadProgram → Type 0
OfThread thread = AreSmallCalls thread.calls

by_thread : (t : ℕ) (thread : ThreadProgram) → slice_get program.threads t ≡ Some thread → OfThread thread
by_thread zero thread at = subst OfThread (some_is at) setup_small
by_thread (suc zero) thread at = subst OfThread (some_is at) (one_set 2 (codes "add") (pos 3) [] refl none_small)
by_thread (suc (suc zero)) thread at = subst OfThread (some_is at)
    (one_set 3 (codes "remove") (pos 3) (set_call 4 (codes "contains") (values.Int (negsuc 3)) ∷ []) refl
    (one_set 4 (codes "contains") (negsuc 3) [] refl none_small))
by_thread (suc (suc (suc n))) thread at = absurd (none-some _ at)

is_small : HasSmallItems program
is_small t k i thread call v at there inside = by_thread t thread at k call there i v inside

-- the law of this program text
pub example_is_taken : OneFile → NoPlaces → ReadsWhatIsSpelled → ExampleIsTaken
example_is_taken one places reads classes f o same of is =
    subst (λ (x : ElaboratedFile). IsTaken x example)
    (sym (same_ok _ o outcome is (is_the_list one places classes f same of)))
    (record {
      p = program;
      reads = (reads outcome example program).0 is_read;
      list = (codes "s", refl);
      small = is_small;
    })
