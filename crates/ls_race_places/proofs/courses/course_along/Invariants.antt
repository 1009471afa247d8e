-- What the loop `thread` of `course_along` in src/courses.rt keeps.

use Rattle.std.proofs.Common.{◌≡◌, drop}
use Rattle.ls_labels.specs.Names.{names_of}
use Rattle.ls_race_places.specs.Courses.{course_along, first_course}
use Rattle.ls_race_places.specs.Seen.{RunsOf, course_of}
use Rattle.ls_race_places.proofs.courses.course_along.Given as goal

abbrev pub invariant-loop-thread : goal.invariant-loop-thread
invariant-loop-thread l = record {
  runs : RunsOf l.fn.names l.course;
  all : course_along (names_of l.fn.names) l.of (course_of l.course) (drop l.thread-index l.steps) ≡
      course_along (names_of l.fn.names) l.of (first_course (names_of l.fn.names)) l.steps;
}
