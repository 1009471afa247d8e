-- The cells' answer to an action.
use Rattle.ls_code.specs.Cells.{Cells, Effect, Answers, Waits, Stops, Unfit}
use Rattle.ls_machine_moves.specs.declared.flow.Reply.{Reply}
use Rattle.ls_machine_moves.specs.declared.flow.Reply.TheVariants as reply

-- the cells after an effect, and what is said of it
abbrev pub cells_after : Cells → Effect → Cells
cells_after c (Answers d answer) = d
cells_after c Waits = c
cells_after c Stops = c
cells_after c Unfit = c

abbrev pub reply_of : Effect → Reply
reply_of (Answers d answer) = reply.Answered answer
reply_of Waits = reply.Waits
reply_of Stops = reply.Stops
reply_of Unfit = reply.Unfit
