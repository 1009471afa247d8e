-- The threads lie in the linked code, after the units.
use Rattle.std.proofs.Common.{◌≡◌, ℕ, zero, suc, ◌+◌, ◌-◌, ◌<◌, ◌≤◌, List, [], ◌∷◌, ◌++◌, length, Some, slice_get, refl}
use Rattle.std.proofs.Common.{sym, ap, ◌∙◌, arith, append_assoc, length-append}
use Rattle.ls_checked.specs.CheckedTree.{Class}
use Rattle.ls_checked.specs.CheckedProgram.{ThreadProgram}
use Rattle.ls_code.specs.Code.{Code, Start}
use Rattle.ls_code.specs.Throws.{find_row}
use Rattle.ls_code.specs.declared.instruction.Instruction.{Instruction}
use Rattle.ls_code.specs.declared.code.HandlerRow.{HandlerRow}
use Rattle.ls_preservation.specs.Threads.{calls_of}
use Rattle.ls_linker.specs.Threads.{thread_code, thread_size, thread_row, start_of}
use Rattle.ls_linker.specs.Linked.{threads_code, threads_rows, starts}
use Rattle.ls_linker.proofs.UnitLists.{behind, RowsEnd, RowsFrom, end_append, end_more, from_less, rows_behind}
use Rattle.ls_linker.proofs.UnitLists.{this_row}
use Rattle.ls_emit.proofs.Places.{HasAt}

-- the code of a thread, and the row that counts in it
pub record ThreadLies (c : Code) (classes : List Class) (t : ThreadProgram) (from place : ℕ) : Type 0 where
  pub behind : from ≤ place
  pub stands : HasAt c.instructions place (thread_code classes t)
  pub guards : (d : ℕ) →
      place ≤ d →
      d < place + (thread_size classes t - 1) →
      find_row c.handlers d ≡ Some (thread_row place (thread_size classes t))
  pub fits : place + thread_size classes t ≤ length c.instructions

has_here : (whole pre code post : List Instruction) (p : ℕ) →
    p ≡ length pre →
    whole ≡ pre ++ (code ++ post) →
    HasAt whole p code
has_here whole pre [] post p n e = tt
has_here whole pre (i ∷ code) post p n e = (
  let q : p ≡ length pre + 0 = omega arith in
      ap (λ k. slice_get whole k) q ∙ ap (λ l. slice_get l (length pre + 0)) e ∙ behind pre (i ∷ (code ++ post)) 0,
  has_here whole (pre ++ i ∷ []) code post (p + 1) (omega (arith, length-append pre (i ∷ [])))
      (e ∙ sym (append_assoc pre (i ∷ []) (code ++ post))),
)

-- the rows of threads begin at their code or after it
pub threads_from : (classes : List Class) (ts : List ThreadProgram) (p : ℕ) → RowsFrom p (threads_rows classes p ts)
threads_from classes [] p = tt
threads_from classes (t ∷ ts) p = (
  omega arith,
  from_less p (p + thread_size classes t) _ (omega arith)
      (threads_from classes ts (p + thread_size classes t)),
)

first_thread : (c : Code) (classes : List Class) (t : ThreadProgram) (ts : List ThreadProgram) (from p : ℕ)
    (pre : List Instruction) (before : List HandlerRow) →
    from ≤ p →
    p ≡ length pre →
    RowsEnd p before →
    c.instructions ≡ pre ++ threads_code classes (t ∷ ts) → c.handlers ≡ before ++ threads_rows classes p (t ∷ ts) →
    ThreadLies c classes t from p
first_thread c classes t ts from p pre before le n ends ec er = record {
  behind = le;
  stands = has_here c.instructions pre (thread_code classes t) (threads_code classes ts) p n ec;
  guards = λ d low high.
      ap (λ l. find_row l d) er ∙ rows_behind d before (threads_rows classes p (t ∷ ts)) (end_more p d before low ends)
      ∙ this_row (thread_row p (thread_size classes t)) (threads_rows classes (p + thread_size classes t) ts) d low
      high;
  fits = omega (
    arith,
    ap length ec,
    length-append pre (threads_code classes (t ∷ ts)),
    length-append (thread_code classes t) (threads_code classes ts),
  );
}

-- thread t in the whole code: its code, its row and its start
pub record Thread (c : Code) (classes : List Class) (ts : List ThreadProgram) (from t : ℕ) (s : Start) : Type 0 where
  pub program : ThreadProgram
  pub found : slice_get ts t ≡ Some program
  pub place : ℕ
  pub starts : s ≡ start_of place program
  pub lies : ThreadLies c classes program from place

-- each thread of a program is so in the whole code
pub threads_lie : (c : Code) (classes : List Class) (ts : List ThreadProgram) (from p : ℕ) (pre : List Instruction)
    (before : List HandlerRow) →
    from ≤ p →
    p ≡ length pre →
    RowsEnd p before →
    c.instructions ≡ pre ++ threads_code classes ts → c.handlers ≡ before ++ threads_rows classes p ts →
    (t : ℕ) (s : Start) → slice_get (starts classes p ts) t ≡ Some s → Thread c classes ts from t s
threads_lie c classes [] from p pre before le n ends ec er t s e = cc
threads_lie c classes (x ∷ ts) from p pre before le n ends ec er zero s e =
    record {
      program = x;
      found = refl;
      place = p;
      starts = (let same : start_of p x ≡ s = cc in sym same);
      lies = first_thread c classes x ts from p pre before le n ends ec er;
    }
threads_lie c classes (x ∷ ts) from p pre before le n ends ec er (suc t) s e =
    let size = thread_size classes x in
    let r = threads_lie c classes ts from (p + size) (pre ++ thread_code classes x) (before ++ thread_row p size ∷ [])
    (omega arith) (omega (arith, length-append pre (thread_code classes x)))
    (end_append (p + size) before (thread_row p size ∷ []) (end_more p (p + size) before (omega arith) ends)
    (omega arith, tt))
    (ec ∙ sym (append_assoc pre (thread_code classes x) (threads_code classes ts)))
    (er ∙ sym (append_assoc before (thread_row p size ∷ []) (threads_rows classes (p + size) ts))) t s e in
    record { program = r.program; found = r.found; place = r.place; starts = r.starts; lies = r.lies }

-- as many starts as threads, each with the table of its calls
pub started_as : (classes : List Class) (ts : List ThreadProgram) (p t : ℕ) →
    calls_of (slice_get (starts classes p ts) t) (slice_get ts t)
started_as classes [] p t = tt
started_as classes (x ∷ ts) p zero = refl
started_as classes (x ∷ ts) p (suc t) = started_as classes ts (p + thread_size classes x) t
