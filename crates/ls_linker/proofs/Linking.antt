-- The units and threads of a typed file and program in range can be linked.
use Rattle.std.proofs.Common.{◌≡◌, ℕ, List, [], ◌∷◌, length, Some, ◌∙◌, arith}
use Rattle.std.specs.Prelude.{All, slice_get, slice_index_or}
use Rattle.std.proofs.lemmas.List.{length-map}
use Rattle.std.proofs.lemmas.Option.{slice_get-get_or}
use Rattle.ls_events.specs.declared.value.Value.{Value}
use Rattle.ls_events.specs.declared.value.Value.TheVariants as values
use Rattle.ls_events.specs.declared.value.ValueType.{ValueType}
use Rattle.ls_events.specs.declared.value.ValueType.TheVariants as types
use Rattle.ls_checked.specs.CheckedTree.{File}
use Rattle.ls_checked.specs.CheckedProgram.{ProgramCall, Making, Calling, ThreadProgram, Program}
use Rattle.ls_meaning.specs.Expressions.{constructor_of}
use Rattle.ls_types_judgement.specs.Typing.{IsTypedFile, parameters_of}
use Rattle.ls_refs.specs.Lowered.{lowered_method, lowered_file}
use Rattle.ls_refs.specs.Refused.{AllFit}
use Rattle.ls_finally.specs.Flat.{flat_method, flat_file}
use Rattle.ls_emit.specs.Units.{unit_of, units_of}
use Rattle.ls_emit.specs.Short.{AllShort}
use Rattle.ls_types_judgement.specs.Classes.{HasItsClasses}
use Rattle.ls_types_judgement.specs.Programs.{IsArgument, AreArguments, IsTypedCall, IsTypedProgram}
use Rattle.ls_types_judgement.specs.Jumps.{HasItsLoops}
use Rattle.ls_types_judgement.specs.Limits.{IsRanged, IsRangedProgram}
use Rattle.ls_linker.specs.Links.{IsWritten, CallLinks, ThreadLinks, Links}
use Rattle.ls_linker.proofs.Segments.{in_range}
use Rattle.ls_linker.proofs.Ranges.{file_emittable}
use Rattle.ls_linker.proofs.Landing.{Each, each_all, units_land}

written : (t : ValueType) (v : Value) → IsArgument t v → IsWritten v
written t (values.Int z) h = tt
written t (values.Boolean b) h = tt
written types.Int (values.Reference n) h = h
written types.Boolean (values.Reference n) h = h
written types.BooleanArray (values.Reference n) h = h
written (types.Class c) (values.Reference n) h = h
written types.Lock (values.Reference n) h = h
written (types.Markable c) (values.Reference n) h = h
written types.Int (values.Pair n m) h = h
written types.Boolean (values.Pair n m) h = h
written types.BooleanArray (values.Pair n m) h = h
written (types.Class c) (values.Pair n m) h = h
written types.Lock (values.Pair n m) h = h
written (types.Markable c) (values.Pair n m) h = h

all_written : (ts : List ValueType) (vs : List Value) → AreArguments ts vs → Each IsWritten vs
all_written [] [] h = tt
all_written [] (v ∷ vs) h = absurd h
all_written (t ∷ ts) [] h = tt
all_written (t ∷ ts) (v ∷ vs) h = (written t v h.0, all_written ts vs h.1)

module _ (file : File) (program : Program) (ranged : IsRanged file) (typed : IsTypedProgram file program)
    (room : IsRangedProgram program) where
  call_links : (call : ProgramCall) → IsTypedCall file program call → CallLinks file.classes call
  call_links (Making name class text values) h =
      let there = h.there in
      let named = in_range program.names name h.setup_name h.named in
      let made = in_range file.methods (constructor_of file.classes class) h.constructor h.found in
      let classes = ranged.classes in
      let methods = ranged.methods in
      let names = room.names in (
        omega (arith, named, names),
        omega (arith, there, classes),
        omega (arith, made, methods),
        each_all IsWritten values (all_written (parameters_of h.constructor) values h.fit),
      )
  call_links (Calling name method text result values) h =
      let named = in_range program.names name h.setup_name h.named in
      let found = in_range file.methods method h.called h.found in
      let methods = ranged.methods in
      let names = room.names in (
        omega (arith, named, names),
        omega (arith, found, methods),
        each_all IsWritten values (all_written (parameters_of h.called) values h.fit),
      )

  thread_links : (number : ℕ) (t : ThreadProgram) →
      slice_get program.threads number ≡ Some t →
      ThreadLinks file.classes t
  thread_links number t e = record {
    few = room.calls number t e;
    calls = λ k call below.
        call_links (slice_index_or t.calls k call) (typed number t k (slice_index_or t.calls k call) e
        (slice_get-get_or t.calls k call below));
  }

  threads_link : All (ThreadLinks file.classes) program.threads
  threads_link = λ k t below. thread_links k (slice_index_or program.threads k t)
      (slice_get-get_or program.threads k t below)

  -- the units and the threads of a typed file and its program can be linked
  pub all_link : IsTypedFile file →
      HasItsClasses file →
      HasItsLoops file →
      AllFit file.methods →
      AllShort (flat_file (lowered_file file)) →
      Links file program (units_of (flat_file (lowered_file file)))
  all_link well its loops fit short =
      let methods = ranged.methods in
      let many : length (units_of (flat_file (lowered_file file))) ≡ length file.methods =
      length-map (flat_file (lowered_file file)) unit_of ∙ length-map (lowered_file file) flat_method ∙
      length-map file.methods (lowered_method file.classes) in
      record {
        few = omega (arith, methods, many);
        all = units_land (flat_file (lowered_file file)) (file_emittable file well its ranged loops fit) short;
        few_threads = room.threads;
        threads = threads_link;
      }
