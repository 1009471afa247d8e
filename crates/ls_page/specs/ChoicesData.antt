-- The data of a page on which one chooses, as one JSON text.
use Rattle.std.specs.Prelude.{◌≡◌, ◌≢◌, ◌≤◌, ℕ, ◌+◌, if◌then◌else◌, List, [], ◌++◌, AllPairs, Option, None, Some}
use Rattle.std.specs.Prelude.{codes, length, map}
use Rattle.std.specs.declared.vec.Vec.{Vec}
use Rattle.std.specs.declared.alloc.Global.{Global}
use Rattle.std.specs.Fmt.{decimal}
use Rattle.ls_events.specs.declared.event.Event.{Event}
use Rattle.ls_checked.specs.CheckedTree.{File}
use Rattle.ls_checked.specs.CheckedProgram.{Program}
use Rattle.ls_report.specs.Events.{Text}
use Rattle.ls_meaning.specs.Runs.{source_history}
use Rattle.ls_automaton.specs.declared.outcome.Outcome.{Outcome}
use Rattle.ls_linearity.specs.Laws.{IsDecided}
use Rattle.ls_linearity.specs.Tabled.{IsTableOf, most_states}
use Rattle.ls_linearity.specs.declared.table.SerialTable.{SerialTable}
use Rattle.ls_serial_search.specs.Open.{HasManyOrders}
use Rattle.ls_serial_search.specs.Told.{usual}
use Rattle.ls_labels.specs.Names.{Names}
use Rattle.ls_state.specs.State.{state_text}
use Rattle.ls_page.specs.Data.{Texts, field, texts_text}
use Rattle.ls_page.specs.Quoted.{quoted}
use Rattle.ls_page.specs.declared.parts.Reference.{Reference as GivenReference}
use Rattle.ls_specification.specs.Specification.{spec_file, spec_program}
use Rattle.ls_choices.specs.Rows.{AreCut, AreLight, Graph, HaveRows, IsFull, IsGraphFrom, rows_of_threads, weight_of}
use Rattle.ls_choices.specs.Walks.{numbered, words_along}
use Rattle.ls_choices.specs.Laws.{whole_trace}
use Rattle.ls_choices.specs.Reaching.{IsReach, TellsLeftOut}
use Rattle.ls_choices.specs.declared.reach.Reach.{Reach}
use Rattle.ls_choices.specs.declared.reach.Reach.TheVariants as reaches
use Rattle.ls_page.specs.Lists.{listed, lists_text}
use Rattle.ls_page.specs.Numbers.{AreAllNumbers, after_rows, lines_of_ends, row_words}
use Rattle.ls_page.specs.States.{ends_text, targets_text}

-- a reference: its class text, and the file and the program whose calls, run one at a time, are right
pub record Reference : Type 0 where
  pub text : Text
  pub file : File
  pub program : Program

abbrev pub reference_of : Option GivenReference → Option Reference
reference_of None = None
reference_of (Some r) = Some (record {
  text = r.text.now;
  file = spec_file r.specification;
  program = spec_program r.specification;
})

-- ---- the text

-- what `state` prints before step 1, and what `trace` prints of the first steps
abbrev pub first_text : Names → List ℕ → Text
first_text names first =
    field (codes "before") (state_text names []) ++ field (codes "setup") (whole_trace names first)

-- whether each list of threads is a walk, and otherwise up to how many steps
abbrev pub reach_text : Reach → Text
reach_text reaches.All = codes ",\"complete\":true"
reach_text (reaches.UpTo steps) = codes ",\"complete\":false,\"steps\":" ++ decimal steps

-- Texts by number; the numbers of the words of each row; of each state between calls the numbers of the lines of the
-- ends of its calls, and the states after them; and the table of these states, if there aren't too many.
pub record Tables : Type 0 where
  pub texts : List Text
  pub lines : List (List ℕ)
  pub ends : List (List ℕ)
  pub next : List (List ℕ)
  pub serial : Option SerialTable

-- the texts, and the lines of the rows
abbrev pub lines_text : Tables → Text
lines_text t = codes ",\"texts\":" ++ (listed quoted t.texts ++ (codes ",\"lines\":" ++ lists_text t.lines))

-- where the rows lead, the ends, and how far the walks go
abbrev pub graph_text : Names → Graph → Reach → Text
graph_text names g reach =
    codes ",\"to\":" ++ (targets_text g.rows ++ (codes ",\"ends\":" ++ (ends_text names g ++ reach_text reach)))

-- what calls do in each state between calls
abbrev pub outcomes_text : Tables → Text
outcomes_text t = codes ",\"outcomes\":" ++ (lists_text t.ends ++ (codes ",\"next\":" ++ lists_text t.next))

-- whether that is all that they do
abbrev pub known_text : Option SerialTable → Text
known_text None = codes ",\"known\":false,\"why\":\"many states\""
known_text (Some t) =
    if t.goes_on then codes ",\"known\":false,\"why\":\"long call\"" else codes ",\"known\":true"

abbrev pub tables_text : Names → Graph → Reach → Tables → Text
tables_text names g reach t =
    lines_text t ++ (graph_text names g reach ++ (outcomes_text t ++ known_text t.serial))

-- the text of a reference, if one is given
abbrev pub reference_text : Option Reference → Text
reference_text None = []
reference_text (Some r) = field (codes "reference") r.text

abbrev pub head_text : Names → Texts → Option Reference → List ℕ → Text
head_text names texts reference first =
    codes "{\"listset\":2,\"choose\":1" ++ (texts_text texts ++ (reference_text reference ++ first_text names first))

abbrev pub data_text : Names → Texts → Option Reference → List ℕ → Graph → Reach → Tables → Text
data_text names texts reference first g reach t =
    head_text names texts reference first ++ (tables_text names g reach t ++ codes "}\n")

-- ---- what it says

-- The table of a program of a file, whose calls run one at a time. There is none if they lead to too many states: then
-- there are more serial histories than so many, too.
abbrev pub IsSerialTable : File → Program → Option SerialTable → Type 0
IsSerialTable file program None = HasManyOrders file program most_states
IsSerialTable file program (Some t) = IsTableOf file program usual t

-- what the pairs of the table's states and of calls say of a history
abbrev pub IsDecidedBy : File → Program → Option SerialTable → List Event → Type 0
IsDecidedBy file program None h = Unit {0}
IsDecidedBy file program (Some t) h = IsDecided file program t h

abbrev pub rows_of : Option SerialTable → List (Vec Outcome Global)
rows_of None = []
rows_of (Some t) = t.rows.items

-- whose the table is: the reference's, if one is given, and else the program's own
abbrev pub serial_file : Option Reference → Names → File
serial_file None names = names.file
serial_file (Some r) names = r.file

abbrev pub serial_program : Option Reference → Names → Program
serial_program None names = names.program
serial_program (Some r) names = r.program

-- The graph is one of the program's states from the end of the first steps on, of at most so many states. All but the
-- last weigh no more than they may together. Each has a row for each thread. A step leads to no state that is kept only
-- if so many are kept, or they weigh more than they may. The lines along each walk are those of `trace`. Each list of
-- threads is a walk, or each up to the number of steps that is told. That each is one is said exactly if no thread's
-- step is left out.
pub record IsChoice (names : Names) (first : List ℕ) (most : ℕ) (g : Graph) (reach : Reach) : Type 0 where
  pub states : IsGraphFrom names first g
  pub threads : HaveRows (rows_of_threads names.program) g.rows
  pub few : length g.rows ≤ most
  pub whole : length g.paths ≡ length g.rows
  pub light : AreLight (weight_of names) g.paths
  pub cut : AreCut (IsFull (weight_of names) most g.paths) g.rows
  pub walks : (threads : List ℕ) (words : List Text) → words_along g 0 threads ≡ Some words →
      whole_trace names (first ++ threads) ≡ whole_trace names first ++ numbered (length first + 1) words
  pub reaches : IsReach (length names.program.threads) g reach
  pub left_out : TellsLeftOut (length names.program.threads) g reach

-- The tables have the lines of the rows, and of the table of states what calls do in each; each text once.
pub record AreTables (names : Names) (g : Graph) (t : Tables) : Type 0 where
  pub lines : AreAllNumbers t.texts t.lines (map row_words g.rows)
  pub ends : AreAllNumbers t.texts t.ends (lines_of_ends names.program (rows_of t.serial))
  pub next : t.next ≡ after_rows (rows_of t.serial)
  pub once : AllPairs (λ (p q : Text). p ≢ q) t.texts

-- These are the data of such a graph, with the table of the reference, if one is given, and else of the program. The
-- history of each schedule is linearizable exactly if a pair is left after it, unless a call goes on.
pub record IsData (names : Names) (texts : Texts) (reference : Option Reference) (first : List ℕ) (most : ℕ)
    (text : Text) : Type 0 where
  pub graph : Graph
  pub reach : Reach
  pub tables : Tables
  pub choice : IsChoice names first most graph reach
  pub serial : IsSerialTable (serial_file reference names) (serial_program reference names) tables.serial
  pub decided : (schedule : List ℕ) → IsDecidedBy (serial_file reference names) (serial_program reference names)
      tables.serial (source_history names.file names.program schedule)
  pub told : AreTables names graph tables
  pub text_is : text ≡ data_text names texts reference first graph reach tables
