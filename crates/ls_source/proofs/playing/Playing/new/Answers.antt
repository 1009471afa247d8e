-- Why `Playing::new` in src/playing.rt keeps its contract.

use Rattle.std.proofs.Common.{◌≡◌, length, map, [], refl, ap, sym, subst, ◌∙◌}
use Rattle.std.proofs.lemmas.List.{length-map}
use Rattle.ls_checked.specs.CheckedTree.{File}
use Rattle.ls_checked.specs.CheckedProgram.{Program}
use Rattle.ls_checked.specs.Plain.{plain_file}
use Rattle.ls_checked.specs.PlainProgram.{plain_program, plain_thread}
use Rattle.ls_meaning.specs.Store.{Store}
use Rattle.ls_events.specs.declared.event.Event.{Event}
use Rattle.std.specs.Prelude.{List}
use Rattle.ls_source.specs.Kept.{IsKept}
use Rattle.ls_source.specs.Progress.{Progress}
use Rattle.ls_source.specs.SeenThread.{thread_of}
use Rattle.ls_source.proofs.Kept.{starts, fresh_threads}
use Rattle.ls_source.proofs.playing.Playing.new.Goals as goal

-- a run without answers, by its store and its events
abbrev so_far : File → Program → Store → List Event → Progress
so_far file program s h = record {
  file = file;
  program = program;
  state = record { store = s; answers = map (λ t. []) program.threads };
  history = h;
}

pub invariant_of-result : goal.invariant_of-result
invariant_of-result c =
    let ps = c.args.program.now.threads.items in
    let made : map thread_of c.in_ok-threads.threads.items ≡ fresh_threads ps = c.in_ok-threads.ensures ∙
    ap fresh_threads c.deref.ensures.value in
    record { works = sym (length-map c.in_ok-threads.threads.items thread_of) ∙ ap length made ∙ length-map ps _ }

pub returns : goal.returns
returns c =
    let file = plain_file c.args.file.now in
    let ps = c.args.program.now.threads.items in
    let program = plain_program c.args.program.now in
    let made : map thread_of c.in_ok-threads.threads.items ≡ fresh_threads ps = c.in_ok-threads.ensures ∙
    ap fresh_threads c.deref.ensures.value in
    record {
      shows = ap (λ s. so_far file program s c.in_ok-store_and_events.store_and_events.events.items)
          c.in_ok-store_and_events.ensures.store
          ∙ ap (so_far file program _) c.in_ok-store_and_events.ensures.events;
      lists = length-map program.threads (λ t. []) ∙ length-map ps plain_thread;
      kept = subst (λ l. IsKept file program l (map (λ t. []) program.threads)) (sym made)
          (starts file program ps refl);
    }
