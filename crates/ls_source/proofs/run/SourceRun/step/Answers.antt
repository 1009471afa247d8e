-- Why `SourceRun::step` in src/run.rt keeps its clauses `did`, `run` and `refused`.

use Rattle.std.proofs.Common.{arith, ◌≡◌, ◌≤◌, ◌<◌, ◌++◌, ◌∷◌, [], length, ap, sym}
use Rattle.std.specs.Prelude.{slice_set}
use Rattle.std.proofs.lemmas.List.{length-map}
use Rattle.std.specs.Vec.{vec_len, vec_capacity}
use Rattle.ls_checked.specs.PlainProgram.{plain_program, plain_thread}
use Rattle.ls_source_store.proofs.Stores.{on_err}
use Rattle.ls_source.specs.Progress.{gone_on}
use Rattle.ls_source.specs.SeenRun.{lists_of}
use Rattle.ls_source.specs.Shown.{progress_of}
use Rattle.ls_source.specs.Stands.{StandsFor}
use Rattle.ls_source.proofs.Histories.{none_is_idle, idle_stays}
use Rattle.ls_source.proofs.StoresAndEvents.{stays, pushed}
use Rattle.ls_source.proofs.Standing.{of_run, held_lists, held_kept, held_shows, had_still, had_more, did_next}
use Rattle.ls_source.proofs.Standing.{waits_unanswered, idle_unanswered}
use Rattle.ls_source.proofs.run.SourceRun.step.Goals as goal

pub returns-then-thread-len-clause-did : goal.returns-then-thread-len-clause-did
returns-then-thread-len-clause-did c =
    let r = c.args.self.now in
    let past : length (plain_program r.playing.program.now).threads ≤ c.args.thread = rw
    (length-map r.playing.program.now.threads.items plain_thread) (omega (arith, r.lists, r.answers.ok.0)) in
    sym (ap (λ st. st.did)
    (none_is_idle (progress_of r).file (progress_of r).program (progress_of r).state c.args.thread past))

pub returns-then-thread-len-clause-run : goal.returns-then-thread-len-clause-run
returns-then-thread-len-clause-run c =
    let r = c.args.self.now in
    let past : length (plain_program r.playing.program.now).threads ≤ c.args.thread = rw
    (length-map r.playing.program.now.threads.items plain_thread) (omega (arith, r.lists, r.answers.ok.0)) in
    idle_stays (progress_of r) c.args.thread
    (none_is_idle (progress_of r).file (progress_of r).program (progress_of r).state c.args.thread past)

pub invariant_of-self-in-Break-1 : goal.invariant_of-self-in-Break-1
invariant_of-self-in-Break-1 c =
    let r = c.args.self.now in
    let xs = slice_set r.answers.items c.args.thread c.reserve.new.self in
    let had : lists_of xs ≡ lists_of r.answers.items =
    stays r.answers.items c.args.thread c.index_mut-had.result.now c.reserve.new.self c.reserve.ensures.items
    c.index_mut-had.ensures.value in
    record {
      lists = held_lists r.playing xs (progress_of r) (of_run r) had;
      kept = held_kept r.playing xs (progress_of r) (of_run r) had;
    }

pub returns-in_err-reserve-clause-refused : goal.returns-in_err-reserve-clause-refused
returns-in_err-reserve-clause-refused c =
    let r = c.args.self.now in
    let xs = slice_set r.answers.items c.args.thread c.reserve.new.self in
    let had : lists_of xs ≡ lists_of r.answers.items =
    stays r.answers.items c.args.thread c.index_mut-had.result.now c.reserve.new.self c.reserve.ensures.items
    c.index_mut-had.ensures.value in
    on_err c.from_residual.result (held_shows r.playing xs (progress_of r) (of_run r) had)

pub invariant_of-self-in-Break-branch-2 : goal.invariant_of-self-in-Break-branch-2
invariant_of-self-in-Break-branch-2 c =
    let r = c.args.self.now in
    let xs = slice_set r.answers.items c.args.thread c.reserve.new.self in
    let had : lists_of xs ≡ lists_of r.answers.items =
    stays r.answers.items c.args.thread c.index_mut-had.result.now c.reserve.new.self c.reserve.ensures.items
    c.index_mut-had.ensures.value in
    let stands : StandsFor c.step.new.self (progress_of r) =
    c.in_err-did.ensures.refused (progress_of r) (of_run r) in
    record {
      lists = held_lists c.step.new.self xs (progress_of r) stands had;
      kept = held_kept c.step.new.self xs (progress_of r) stands had;
    }

pub returns-in_err-did-clause-refused : goal.returns-in_err-did-clause-refused
returns-in_err-did-clause-refused c =
    let r = c.args.self.now in
    let xs = slice_set r.answers.items c.args.thread c.reserve.new.self in
    let had : lists_of xs ≡ lists_of r.answers.items =
    stays r.answers.items c.args.thread c.index_mut-had.result.now c.reserve.new.self c.reserve.ensures.items
    c.index_mut-had.ensures.value in
    let stands : StandsFor c.step.new.self (progress_of r) =
    c.in_err-did.ensures.refused (progress_of r) (of_run r) in
    on_err c.from_residual-in_err-did.result (held_shows c.step.new.self xs (progress_of r) stands had)

pub invariant_of-self-in-Waits : goal.invariant_of-self-in-Waits
invariant_of-self-in-Waits c =
    let r = c.args.self.now in
    let t = c.args.thread in
    let xs = slice_set r.answers.items t c.reserve.new.self in
    let did : c.in_ok-did.did ≡ did_next r t = c.in_ok-did.ensures.did (progress_of r) (of_run r) in
    let had : lists_of xs ≡ (gone_on (progress_of r) t).state.answers =
    had_still r t c.index_mut-had.result.now c.reserve.new.self c.in_ok-did.did
    (waits_unanswered c.in_ok-did.did c.in-Waits.is) did c.reserve.ensures.items c.index_mut-had.ensures.value in
    let stands : StandsFor c.step.new.self (gone_on (progress_of r) t) =
    c.in_ok-did.ensures.run (progress_of r) (of_run r) in
    record {
      lists = held_lists c.step.new.self xs (gone_on (progress_of r) t) stands had;
      kept = held_kept c.step.new.self xs (gone_on (progress_of r) t) stands had;
    }

pub returns-in-Waits-clause-did : goal.returns-in-Waits-clause-did
returns-in-Waits-clause-did c =
    let r = c.args.self.now in
    c.in_ok-did.ensures.did (progress_of r) (of_run r)

pub returns-in-Waits-clause-run : goal.returns-in-Waits-clause-run
returns-in-Waits-clause-run c =
    let r = c.args.self.now in
    let t = c.args.thread in
    let xs = slice_set r.answers.items t c.reserve.new.self in
    let did : c.in_ok-did.did ≡ did_next r t = c.in_ok-did.ensures.did (progress_of r) (of_run r) in
    let had : lists_of xs ≡ (gone_on (progress_of r) t).state.answers =
    had_still r t c.index_mut-had.result.now c.reserve.new.self c.in_ok-did.did
    (waits_unanswered c.in_ok-did.did c.in-Waits.is) did c.reserve.ensures.items c.index_mut-had.ensures.value in
    let stands : StandsFor c.step.new.self (gone_on (progress_of r) t) =
    c.in_ok-did.ensures.run (progress_of r) (of_run r) in
    held_shows c.step.new.self xs (gone_on (progress_of r) t) stands had

pub invariant_of-self-in-Idle : goal.invariant_of-self-in-Idle
invariant_of-self-in-Idle c =
    let r = c.args.self.now in
    let t = c.args.thread in
    let xs = slice_set r.answers.items t c.reserve.new.self in
    let did : c.in_ok-did.did ≡ did_next r t = c.in_ok-did.ensures.did (progress_of r) (of_run r) in
    let had : lists_of xs ≡ (gone_on (progress_of r) t).state.answers =
    had_still r t c.index_mut-had.result.now c.reserve.new.self c.in_ok-did.did
    (idle_unanswered c.in_ok-did.did c.in-Idle.is) did c.reserve.ensures.items c.index_mut-had.ensures.value in
    let stands : StandsFor c.step.new.self (gone_on (progress_of r) t) =
    c.in_ok-did.ensures.run (progress_of r) (of_run r) in
    record {
      lists = held_lists c.step.new.self xs (gone_on (progress_of r) t) stands had;
      kept = held_kept c.step.new.self xs (gone_on (progress_of r) t) stands had;
    }

pub returns-in-Idle-clause-did : goal.returns-in-Idle-clause-did
returns-in-Idle-clause-did c =
    let r = c.args.self.now in
    c.in_ok-did.ensures.did (progress_of r) (of_run r)

pub returns-in-Idle-clause-run : goal.returns-in-Idle-clause-run
returns-in-Idle-clause-run c =
    let r = c.args.self.now in
    let t = c.args.thread in
    let xs = slice_set r.answers.items t c.reserve.new.self in
    let did : c.in_ok-did.did ≡ did_next r t = c.in_ok-did.ensures.did (progress_of r) (of_run r) in
    let had : lists_of xs ≡ (gone_on (progress_of r) t).state.answers =
    had_still r t c.index_mut-had.result.now c.reserve.new.self c.in_ok-did.did
    (idle_unanswered c.in_ok-did.did c.in-Idle.is) did c.reserve.ensures.items c.index_mut-had.ensures.value in
    let stands : StandsFor c.step.new.self (gone_on (progress_of r) t) =
    c.in_ok-did.ensures.run (progress_of r) (of_run r) in
    held_shows c.step.new.self xs (gone_on (progress_of r) t) stands had

pub invariant_of-self-in-Acted : goal.invariant_of-self-in-Acted
invariant_of-self-in-Acted c =
    let r = c.args.self.now in
    let t = c.args.thread in
    let xs = slice_set r.answers.items t c.push.new.self in
    let did : c.in_ok-did.did ≡ did_next r t = c.in_ok-did.ensures.did (progress_of r) (of_run r) in
    let within : t < length r.answers.items = omega (arith, r.answers.ok.0) in
    let more : c.push.new.self.items ≡ c.reserve.new.self.items ++ c.in-Acted.answer ∷ [] =
    pushed c.push.result c.reserve.new.self.items c.push.new.self.items c.in-Acted.answer
    (vec_capacity c.reserve.new.self) (vec_len c.reserve.new.self) c.push.ensures.full c.in_ok-reserve.ensures.ok
    c.push.ensures.items in
    let had : lists_of xs ≡ (gone_on (progress_of r) t).state.answers =
    had_more r t c.index_mut-had.result.now c.reserve.new.self c.push.new.self c.in_ok-did.did
    c.in-Acted.field-0 c.in-Acted.answer within c.in-Acted.is did c.reserve.ensures.items
    c.index_mut-had.ensures.value more in
    let stands : StandsFor c.step.new.self (gone_on (progress_of r) t) =
    c.in_ok-did.ensures.run (progress_of r) (of_run r) in
    record {
      lists = held_lists c.step.new.self xs (gone_on (progress_of r) t) stands had;
      kept = held_kept c.step.new.self xs (gone_on (progress_of r) t) stands had;
    }

pub returns-in_ok-push-in-Acted-clause-did : goal.returns-in_ok-push-in-Acted-clause-did
returns-in_ok-push-in-Acted-clause-did c =
    let r = c.args.self.now in
    c.in_ok-did.ensures.did (progress_of r) (of_run r)

pub returns-in_ok-push-in-Acted-clause-run : goal.returns-in_ok-push-in-Acted-clause-run
returns-in_ok-push-in-Acted-clause-run c =
    let r = c.args.self.now in
    let t = c.args.thread in
    let xs = slice_set r.answers.items t c.push.new.self in
    let did : c.in_ok-did.did ≡ did_next r t = c.in_ok-did.ensures.did (progress_of r) (of_run r) in
    let within : t < length r.answers.items = omega (arith, r.answers.ok.0) in
    let more : c.push.new.self.items ≡ c.reserve.new.self.items ++ c.in-Acted.answer ∷ [] =
    pushed c.push.result c.reserve.new.self.items c.push.new.self.items c.in-Acted.answer
    (vec_capacity c.reserve.new.self) (vec_len c.reserve.new.self) c.push.ensures.full c.in_ok-reserve.ensures.ok
    c.push.ensures.items in
    let had : lists_of xs ≡ (gone_on (progress_of r) t).state.answers =
    had_more r t c.index_mut-had.result.now c.reserve.new.self c.push.new.self c.in_ok-did.did
    c.in-Acted.field-0 c.in-Acted.answer within c.in-Acted.is did c.reserve.ensures.items
    c.index_mut-had.ensures.value more in
    let stands : StandsFor c.step.new.self (gone_on (progress_of r) t) =
    c.in_ok-did.ensures.run (progress_of r) (of_run r) in
    held_shows c.step.new.self xs (gone_on (progress_of r) t) stands had
