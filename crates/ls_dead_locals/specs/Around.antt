-- Locals that are dead after the ends of a part, by the frames around the part.
use Rattle.std.specs.Prelude.{ℕ, Bool, true, false, ◌&&◌, ◌||◌, nat_eq, List, [], ◌∷◌}
use Rattle.ls_events.specs.declared.value.Value.{Value}
use Rattle.ls_checked.specs.CheckedTree.{Expression, Statement, While}
use Rattle.ls_meaning.specs.declared.completion.Completion.{Completion}
use Rattle.ls_meaning.specs.declared.completion.Completion.TheVariants.{Normal, Broke, Continued, Returned, Threw}
use Rattle.ls_source_pending.specs.Pending.{Operand, InItem}
use Rattle.ls_source_pending.specs.Pending.{InLeft, InAnd, InOr, InTarget}
use Rattle.ls_source_pending.specs.Pending.{InArgument, InMade}
use Rattle.ls_source_pending.specs.Pending.{Waiting, ToSlot, ToTarget, ToField, ToCounter, ToAddend, ToSum, ToArray}
use Rattle.ls_source_pending.specs.Pending.{ToIndex, ToItem, ToNothing, ToIf, ToTest, ToReturn, Ending, OfSequence}
use Rattle.ls_source_pending.specs.Pending.{OfBody, OfTry, OfFinally, Frame, In, On, Up, Leaves, Control}
use Rattle.ls_source_pending.specs.Pending.{Asks, Enters, Turns}
use Rattle.ls_dead_locals.specs.Dead.{all_spare, are_dead, both_ends, finished, is_dead, spares}
use Rattle.ls_dead_locals.specs.declared.statements.Ways.{Ways}

-- whether a local is dead after an end of a statement
abbrev pub dead_after : Completion Value → Ways → Bool
dead_after Normal w = w.normal
dead_after (Broke n) w = w.jumped
dead_after (Continued n) w = w.jumped
dead_after (Returned v) w = w.returned
dead_after (Threw kind) w = w.threw

abbrev pub operand_spares : ℕ → Operand → Bool
operand_spares n (InItem i) = spares n i
operand_spares n (InLeft op b) = spares n b
operand_spares n (InAnd b) = spares n b
operand_spares n (InOr b) = spares n b
operand_spares n (InTarget m es) = all_spare n es
operand_spares n (InArgument p before es) = all_spare n es
operand_spares n (InMade c es) = all_spare n es
operand_spares n _ = true

-- the local of a slot is dead before a loop
abbrev pub loop_dead : ℕ → Expression → Statement → Ways → Bool
loop_dead n e s w = is_dead n (While e s) w

-- the local of a slot is dead once a statement has the value for which it waits
abbrev pub waiting_dead : ℕ → Waiting → Ways → Bool
waiting_dead n (ToSlot m) w = nat_eq m n || w.normal
waiting_dead n (ToTarget f e) w = both_ends w && spares n e
waiting_dead n (ToField o f) w = both_ends w
waiting_dead n (ToCounter f e) w = both_ends w && spares n e
waiting_dead n (ToAddend o f e) w = both_ends w && spares n e
waiting_dead n (ToSum o f x) w = both_ends w
waiting_dead n (ToArray i e) w = both_ends w && (spares n i && spares n e)
waiting_dead n (ToIndex o e) w = both_ends w && spares n e
waiting_dead n (ToItem o i) w = both_ends w
waiting_dead n ToNothing w = w.normal
waiting_dead n (ToIf a b) w = is_dead n a w && is_dead n b w
waiting_dead n (ToTest e s) w = loop_dead n e s w
waiting_dead n ToReturn w = w.returned

-- the ends of a part that has this value as its end
abbrev pub valued : Bool → Ways → Ways
valued value w = record {
  value = value;
  normal = w.normal;
  jumped = w.jumped;
  returned = w.returned;
  threw = w.threw;
}

-- the ends of the body of a loop that is under way
abbrev pub looped : Bool → Ways → Ways
looped again w = record {
  value = w.value;
  normal = again;
  jumped = again && (w.normal && w.jumped);
  returned = w.returned;
  threw = w.threw;
}

abbrev pub ending_ways : ℕ → Ending → Ways → Ways
ending_ways n (OfSequence ss) w = finished (are_dead n ss w) w
ending_ways n (OfBody e s) w = looped (loop_dead n e s w) w
ending_ways n (OfTry f) w = record {
  value = w.value;
  normal = is_dead n f w;
  jumped = is_dead n f (finished w.jumped w);
  returned = is_dead n f (finished w.returned w);
  threw = is_dead n f (finished w.threw w);
}
ending_ways n (OfFinally reason) w = finished (dead_after reason w) w

-- the ends of a body: its caller has its own locals again
abbrev pub left : Ways → Ways
left w = record { value = w.value; normal = true; jumped = true; returned = true; threw = true }

-- after which ends of the part in a frame the local of a slot is dead, by those of what is around the frame
abbrev pub frame_ways : ℕ → Frame → Ways → Ways
frame_ways n (In f) w = valued ((w.value && w.threw) && operand_spares n f) w
frame_ways n (On f) w = valued (waiting_dead n f w) w
frame_ways n (Up f) w = ending_ways n f w
frame_ways n (Leaves result saved outer) w = left w

-- nothing comes after a call that reads its locals
abbrev pub all_ways : Ways
all_ways = record { value = true; normal = true; jumped = true; returned = true; threw = true }

abbrev pub frames_ways : ℕ → List Frame → Ways
frames_ways n [] = all_ways
frames_ways n (f ∷ fs) = frame_ways n f (frames_ways n fs)

-- the local of a slot is dead before the answer to a question
abbrev pub control_dead : ℕ → Control → Ways → Bool
control_dead n (Asks action sort) w = w.value && w.threw
control_dead n (Enters m vs) w = w.value && w.threw
control_dead n (Turns e s) w = loop_dead n e s w
control_dead n _ w = false
