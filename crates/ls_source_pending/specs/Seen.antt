-- The work that the code keeps, as plain data.
use Rattle.std.specs.Prelude.{List, ◌∷◌, map, reverse}
use Rattle.ls_checked.specs.Plain.{plain, all_plain, plain_statement, statements_of}
use Rattle.ls_source_pending.specs.Pending as pending
use Rattle.ls_source_pending.specs.declared.work.Purpose.{Purpose}
use Rattle.ls_source_pending.specs.declared.work.Purpose.TheVariants as purposes
use Rattle.ls_source_pending.specs.declared.work.Operand.{Operand}
use Rattle.ls_source_pending.specs.declared.work.Operand.TheVariants as operands
use Rattle.ls_source_pending.specs.declared.work.Waiting.{Waiting}
use Rattle.ls_source_pending.specs.declared.work.Waiting.TheVariants as waitings
use Rattle.ls_source_pending.specs.declared.work.Ending.{Ending}
use Rattle.ls_source_pending.specs.declared.work.Ending.TheVariants as endings
use Rattle.ls_source_pending.specs.declared.work.Frame.{Frame}
use Rattle.ls_source_pending.specs.declared.work.Frame.TheVariants as frames
use Rattle.ls_source_pending.specs.declared.work.Control.{Control}
use Rattle.ls_source_pending.specs.declared.work.Control.TheVariants as controls

abbrev pub purpose_of : Purpose → pending.Purpose
purpose_of (purposes.Call m o) = pending.ToCall m o
purpose_of (purposes.Make c o) = pending.ToMake c o
purpose_of (purposes.Mark c) = pending.ToMark c

abbrev pub operand_of : Operand → pending.Operand
operand_of (operands.Field c f) = pending.InField c f
operand_of (operands.Item i) = pending.InItem (plain i.now)
operand_of (operands.Index o) = pending.InIndex o
operand_of operands.Negate = pending.InNegate
operand_of operands.Not = pending.InNot
operand_of operands.Length = pending.InLength
operand_of (operands.Left op b) = pending.InLeft op (plain b.now)
operand_of (operands.Right op x) = pending.InRight op x
operand_of (operands.And b) = pending.InAnd (plain b.now)
operand_of (operands.Or b) = pending.InOr (plain b.now)
operand_of (operands.Target m es) = pending.InTarget m (all_plain es.now)
operand_of (operands.Made c es) = pending.InMade c (all_plain es.now)
operand_of (operands.Constructor o) = pending.InConstructor o
operand_of operands.Reference = pending.InReference
operand_of operands.Mark = pending.InMark
operand_of (operands.Both array) = pending.InBoth array
operand_of (operands.Written pair) = pending.InWritten pair

abbrev pub waiting_of : Waiting → pending.Waiting
waiting_of (waitings.Slot n) = pending.ToSlot n
waiting_of (waitings.Target f e) = pending.ToTarget f (plain e.now)
waiting_of (waitings.Field o f) = pending.ToField o f
waiting_of (waitings.Counter f e) = pending.ToCounter f (plain e.now)
waiting_of (waitings.Addend o f e) = pending.ToAddend o f (plain e.now)
waiting_of (waitings.Sum o f x) = pending.ToSum o f x
waiting_of (waitings.Array i e) = pending.ToArray (plain i.now) (plain e.now)
waiting_of (waitings.Index o e) = pending.ToIndex o (plain e.now)
waiting_of (waitings.Item o n) = pending.ToItem o n
waiting_of waitings.Nothing = pending.ToNothing
waiting_of (waitings.If a b) = pending.ToIf (plain_statement a.now) (plain_statement b.now)
waiting_of (waitings.Test e s) = pending.ToTest (plain e.now) (plain_statement s.now)
waiting_of waitings.Return = pending.ToReturn

abbrev pub ending_of : Ending → pending.Ending
ending_of (endings.Sequence ss) = pending.OfSequence (statements_of ss.now)
ending_of (endings.Body e s) = pending.OfBody (plain e.now) (plain_statement s.now)
ending_of (endings.Try f) = pending.OfTry (plain_statement f.now)
ending_of (endings.Finally c) = pending.OfFinally c

abbrev pub frame_of : Frame → pending.Frame
frame_of (frames.Operand f) = pending.In (operand_of f)
frame_of (frames.Argument p before es) = pending.In (pending.InArgument (purpose_of p) before.items (all_plain es.now))
frame_of (frames.Waiting f) = pending.On (waiting_of f)
frame_of (frames.Ending f) = pending.Up (ending_of f)
frame_of (frames.Body result saved outer) = pending.Leaves result saved.items outer

-- the innermost frame comes last
unfoldable pub frames_of : List Frame → List pending.Frame
frames_of fs = reverse (map frame_of fs)

abbrev pub control_of : Control → pending.Control
control_of (controls.Evaluates e) = pending.Evaluates (plain e.now)
control_of (controls.Argues p before es) = pending.Argues (purpose_of p) before.items (all_plain es.now)
control_of (controls.Invokes m o vs) = pending.Invokes m (o ∷ vs.items)
control_of (controls.Opens m o vs) = pending.Opens m (o ∷ vs.items)
control_of (controls.Executes s) = pending.Executes (plain_statement s.now)
control_of (controls.Loops e s) = pending.Loops (plain e.now) (plain_statement s.now)
control_of (controls.Gives v) = pending.Gives v
control_of (controls.Ends c) = pending.Ends c
control_of (controls.Asks action sort) = pending.Asks action sort
control_of (controls.Enters m o vs) = pending.Enters m (o ∷ vs.items)
control_of (controls.Turns e s) = pending.Turns (plain e.now) (plain_statement s.now)
