-- What the code promises of its threads, by their own instructions.
use Rattle.std.proofs.Common.{◌≡◌, ◌≢◌, ℕ, ◌≤◌, List, [], ◌∷◌, length, map, refl, sym, ap, ◌∙◌, arith, slice_get, All}
use Rattle.ls_events.specs.declared.action.Answer.{Answer}
use Rattle.ls_checked.specs.CheckedTree.{File}
use Rattle.ls_checked.specs.CheckedProgram.{Program}
use Rattle.ls_meaning.specs.Threads.{Next, Goes, Ended, Trapped, next}
use Rattle.ls_code.specs.Code.{Code, Start}
use Rattle.ls_code.specs.Machine.{started}
use Rattle.ls_code.specs.Steps.{Still, fetched_move}
use Rattle.ls_code.specs.Fed.{Lost}
use Rattle.ls_code.specs.Reading.{read_move, whole_move, fed, resume}
use Rattle.ls_code.specs.declared.instruction.Instruction.{Instruction}
use Rattle.ls_preservation.specs.InWords.{word_of, map_answer}
use Rattle.ls_preservation.specs.Threads.{told, Asks}
use Rattle.ls_preservation.specs.Translations.{most_silent}
use Rattle.ls_preservation.specs.ByWords.{IsExchanged, AsksByWords}
use Rattle.ls_preservation.proofs.Feeding.{still}
use Rattle.ls_preservation.proofs.Meets.{stuck_lost}
use Rattle.ls_preservation.proofs.FedByWords.{fed_by_words}

told_found : (x : Next) → told x ≢ Lost
told_found (Goes action sort) e = cc
told_found Ended e = cc
told_found Trapped e = cc

-- without instructions a thread is stuck
no_code : (code : Code) (n bound k : ℕ) (s : Start) (answers : List (Answer ℕ)) →
    code.instructions ≡ [] →
    fed code n bound k (started s) answers ≡ Lost
no_code code n bound k s answers e =
    let stuck : whole_move code n (started s) ≡ Still = ap (λ is.
    read_move code n (started s) (fetched_move code (started s) (slice_get is s.place))) e in
    ap (resume code n bound answers) (still code n k (started s) refl stuck) ∙ stuck_lost code n bound answers

enough : (code : Code) (is : List Instruction) →
    code.instructions ≡ is →
    (code.instructions ≡ [] → ⊥) →
    2 ≤ most_silent code
enough code [] e h = absurd (h e)
enough code (i ∷ is) e h = let l : length code.instructions ≡ length (i ∷ is) = ap length e in omega (arith, l)

-- if a thread asks what the source asks, and takes locks by exchange alone, it asks the same by its own instructions
pub asks_by_words : (file : File) (program : Program) (code : Code) →
    Asks file program code →
    All IsExchanged code.instructions →
    AsksByWords file program code
asks_by_words file program code asks exchanged t s had words starts kind comes =
    let answers = map (map_answer word_of) had in
    let promise = asks.asks t s had starts kind in
    let found : fed code t (most_silent code) (most_silent code) (started s) answers ≢ Lost = λ lost.
    told_found (next file program t had) (sym promise ∙ lost) in
    let two : 2 ≤ most_silent code = enough code code.instructions refl
    (λ none. found (no_code code t (most_silent code) (most_silent code) s answers none)) in
    fed_by_words code t (most_silent code) (most_silent code) (started s) words answers exchanged two comes found ∙
    promise
