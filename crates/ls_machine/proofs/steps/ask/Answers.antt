-- Why `ask` in src/steps.rt keeps its clause `came`.

use Rattle.std.proofs.Common.{◌≡◌, ℕ, ◌∷◌, List, Option, None, Some, Bool, false, true, MatchOption, IsTrue, refl, sym}
use Rattle.std.proofs.Common.{ap, ◌∙◌}
use Rattle.std.proofs.lemmas.Bool.{both_ways}
use Rattle.ls_code.specs.Cells.{Cells, Effect, Answers, Waits, Stops, Unfit, effect}
use Rattle.ls_code.specs.Frame.{Frame}
use Rattle.ls_code.specs.Steps.{answered, settled, thrown_thread}
use Rattle.ls_code.specs.Thread.{Thread, with_frames}
use Rattle.ls_code.specs.Throws.{thrown}
use Rattle.ls_code.specs.declared.code.HandlerRow.{HandlerRow}
use Rattle.ls_code.specs.declared.step.Did.TheVariants as did
use Rattle.ls_events.specs.declared.action.Action.{Action}
use Rattle.ls_events.specs.declared.action.Answer.{Answer}
use Rattle.ls_machine_moves.specs.Replies.{cells_after, reply_of}
use Rattle.ls_machine_moves.specs.declared.flow.Reply.TheVariants as reply
use Rattle.ls_machine_threads.specs.Memory.{KeptThread, keeping_thread}
use Rattle.ls_machine.specs.Outcomes.{Came}
use Rattle.ls_machine.proofs.steps.ask.Goals as goal

-- what comes of an action by what the cells reply
module _ (c : Cells) (k : KeptThread) (action : Action ℕ) (go : Answer ℕ → Option Thread) where
  waits : (e : Effect) (new : Cells) →
      new ≡ cells_after c e →
      reply_of e ≡ reply.Waits →
      Came (settled c k.thread action go e) k k new did.Waits
  waits (Answers d b) new h r = absurd (cc)
  waits Waits new h r = (refl, h, refl)
  waits Stops new h r = absurd (cc)
  waits Unfit new h r = absurd (cc)

  stops : (e : Effect) (new : Cells) →
      new ≡ cells_after c e →
      reply_of e ≡ reply.Stops →
      Came (settled c k.thread action go e) k k new did.Stopped
  stops (Answers d b) new h r = absurd (cc)
  stops Waits new h r = absurd (cc)
  stops Stops new h r = (refl, h, refl)
  stops Unfit new h r = absurd (cc)

  unfit : (e : Effect) (new : Cells) →
      new ≡ cells_after c e →
      reply_of e ≡ reply.Unfit →
      Came (settled c k.thread action go e) k k new did.Silent
  unfit (Answers d b) new h r = absurd (cc)
  unfit Waits new h r = absurd (cc)
  unfit Stops new h r = absurd (cc)
  unfit Unfit new h r = (refl, h, refl)

  module _ (new : Cells) (a : Answer ℕ) (k' : KeptThread) where
    goes_on : (e : Effect) (s : Thread) →
        new ≡ cells_after c e →
        reply_of e ≡ reply.Answered a →
        go a ≡ Some s →
        k' ≡ keeping_thread k s →
        Came (settled c k.thread action go e) k k' new (did.Acted action a)
    goes_on (Answers d b) s h r g is = let same : b ≡ a = cc in rw (same, g) (is, h, refl)
    goes_on Waits s h r g is = absurd (cc)
    goes_on Stops s h r g is = absurd (cc)
    goes_on Unfit s h r g is = absurd (cc)

    stays : (e : Effect) →
        new ≡ cells_after c e →
        reply_of e ≡ reply.Answered a →
        go a ≡ None →
        k' ≡ k →
        Came (settled c k.thread action go e) k k' new did.Silent
    stays (Answers d b) h r g is = let same : b ≡ a = cc in rw (same, g) (is, h, refl)
    stays Waits h r g is = absurd (cc)
    stays Stops h r g is = absurd (cc)
    stays Unfit h r g is = absurd (cc)

    abbrev IsThrown : Option (Frame × List Frame) → Bool → Type 0
    IsThrown o b = MatchOption o (b ≡ false) (λ r. IsTrue b × (k' ≡ keeping_thread k (with_frames k.thread r.0 r.1)))

    is_caught : (e : Effect) (o : Option (Frame × List Frame)) (b : Bool) →
        new ≡ cells_after c e →
        reply_of e ≡ reply.Answered a →
        go a ≡ thrown_thread k.thread o →
        IsThrown o b →
        b ≡ true →
        Came (settled c k.thread action go e) k k' new (did.Acted action a)
    is_caught e None b h r g m t = absurd (both_ways b m t)
    is_caught e (Some x) b h r g m t = goes_on e (with_frames k.thread x.0 x.1) h r g m.1

    is_not_caught : (e : Effect) (o : Option (Frame × List Frame)) (b : Bool) →
        new ≡ cells_after c e →
        reply_of e ≡ reply.Answered a →
        go a ≡ thrown_thread k.thread o →
        IsThrown o b →
        b ≡ false →
        k' ≡ k →
        Came (settled c k.thread action go e) k k' new did.Silent
    is_not_caught e None b h r g m f is = stays e h r g is
    is_not_caught e (Some x) b h r g m f is = absurd (both_ways b f m.0)

pub returns-in-Waits-clause-came : goal.returns-in-Waits-clause-came
returns-in-Waits-clause-came c = waits c.args.cells.now c.args.thread.now c.args.action
    (answered c.args.code.now c.args.thread.now.thread c.args.how) (effect c.args.cells.now c.args.number c.args.action)
    c.perform.new.self c.perform.ensures.after (sym c.perform.ensures.reply ∙ c.in-Waits.is)

pub returns-in-Stops-clause-came : goal.returns-in-Stops-clause-came
returns-in-Stops-clause-came c = stops c.args.cells.now c.args.thread.now c.args.action
    (answered c.args.code.now c.args.thread.now.thread c.args.how) (effect c.args.cells.now c.args.number c.args.action)
    c.perform.new.self c.perform.ensures.after (sym c.perform.ensures.reply ∙ c.in-Stops.is)

pub returns-in-Unfit-clause-came : goal.returns-in-Unfit-clause-came
returns-in-Unfit-clause-came c = unfit c.args.cells.now c.args.thread.now c.args.action
    (answered c.args.code.now c.args.thread.now.thread c.args.how) (effect c.args.cells.now c.args.number c.args.action)
    c.perform.new.self c.perform.ensures.after (sym c.perform.ensures.reply ∙ c.in-Unfit.is)

pub returns-in-Done-clause-came : goal.returns-in-Done-clause-came
returns-in-Done-clause-came c =
    let go = answered c.args.code.now c.args.thread.now.thread c.args.how in
    goes_on c.args.cells.now c.args.thread.now c.args.action go c.perform.new.self c.in-Answered.answer
    c.resume.new.self (effect c.args.cells.now c.args.number c.args.action) _ c.perform.ensures.after
    (sym c.perform.ensures.reply ∙ c.in-Answered.is) (ap go c.in-Done.is) c.resume.ensures

pub returns-in-Gives-clause-came : goal.returns-in-Gives-clause-came
returns-in-Gives-clause-came c =
    let go = answered c.args.code.now c.args.thread.now.thread c.args.how in
    goes_on c.args.cells.now c.args.thread.now c.args.action go c.perform.new.self _ c.resume-in-Gives.new.self
    (effect c.args.cells.now c.args.number c.args.action) _ c.perform.ensures.after
    (sym c.perform.ensures.reply ∙ (c.in-Answered.is ∙ ap reply.Answered c.in-Gives.is)) refl
    c.resume-in-Gives.ensures

pub returns-then-throw-clause-came : goal.returns-then-throw-clause-came
returns-then-throw-clause-came c =
    let t = c.args.thread.now.thread in
    let go = answered c.args.code.now t c.args.how in
    let o : List HandlerRow → Option (Frame × List Frame) = λ rows. thrown rows c.in-Fails.kind (t.top ∷ t.below) in
    is_caught c.args.cells.now c.args.thread.now c.args.action go c.perform.new.self _ c.throw.new.self
    (effect c.args.cells.now c.args.number c.args.action) (o c.handlers.result.now) c.throw.result
    c.perform.ensures.after (sym c.perform.ensures.reply ∙ (c.in-Answered.is ∙ ap reply.Answered c.in-Fails.is))
    (ap (λ rows. thrown_thread t (o rows)) (sym c.handlers.ensures)) c.throw.ensures.thrown c.if-throw.true

pub returns-else-throw-clause-came : goal.returns-else-throw-clause-came
returns-else-throw-clause-came c =
    let t = c.args.thread.now.thread in
    let go = answered c.args.code.now t c.args.how in
    let o : List HandlerRow → Option (Frame × List Frame) = λ rows. thrown rows c.in-Fails.kind (t.top ∷ t.below) in
    is_not_caught c.args.cells.now c.args.thread.now c.args.action go c.perform.new.self _ c.throw.new.self
    (effect c.args.cells.now c.args.number c.args.action) (o c.handlers.result.now) c.throw.result
    c.perform.ensures.after (sym c.perform.ensures.reply ∙ (c.in-Answered.is ∙ ap reply.Answered c.in-Fails.is))
    (ap (λ rows. thrown_thread t (o rows)) (sym c.handlers.ensures)) c.throw.ensures.thrown c.if-throw.false
    (c.throw.ensures.stays c.if-throw.false)
