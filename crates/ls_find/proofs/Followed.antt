-- A program that is another with two threads exchanged is sound if that one is.
use Rattle.std.proofs.Common.{◌≡◌, ◌∙◌, ◌+◌, ◌<◌, ℕ, zero, suc, List, [], ◌∷◌, Ok}
use Rattle.std.proofs.Common.{Option, Some, None, ap, arith, length, refl, subst, sym}
use Rattle.std.specs.Prelude.{slice_get}
use Rattle.ls_checked.specs.CheckedProgram.{Program, ThreadProgram}
use Rattle.ls_checked.specs.CheckedTree.{File}
use Rattle.ls_endless_calls.specs.Laws.{NoneWaitsForEver}
use Rattle.ls_endless_calls.specs.Turning.{NoneTurnsUnexcused}
use Rattle.ls_exchanged.specs.Exchanged.{AreExchanged, HaveNamesByPlace, name_in}
use Rattle.ls_exchanged.specs.Laws.{ExchangedIsLegal, ExchangedIsLinearizable, ExchangedNeverTurns, ExchangedNeverWaits}
use Rattle.ls_image.specs.Images.{Compiles, checked_of}
use Rattle.ls_image.specs.declared.image.Image.{Image}
use Rattle.ls_exchanged.specs.Doubles.{AreDoubles}
use Rattle.ls_exchanged.specs.DoubleLaws.{DoublesAreExchanged, DoublesHaveNames}
use Rattle.ls_text_laws.proofs.Names.{program_names}
use Rattle.ls_translation.specs.Texts.{file_of, program_of}
use Rattle.ls_types_checked.specs.CheckedFile.{elaborated_file}
use Rattle.ls_types_elaboration.specs.Elaborated.{Elaborated}
use Rattle.ls_types_elaboration.specs.Elaboration.{ElaboratedFile, elaborated}
use Rattle.ls_types_places.specs.Laws.{OneAnswer, SameAnswer}
use Rattle.ls_types_programs.specs.Laws.{OneProgram}
use Rattle.ls_types_programs.specs.Programs.{IsTextOf}
use Rattle.ls_source_judge.specs.Judged.{AllLike}
use Rattle.ls_specification.specs.Specification.{Given, given_file, given_program}
use Rattle.ls_find.specs.Doubles.{ExchangesAt, ExchangesIfGiven, SoundFollows}
use Rattle.ls_find.specs.Found.{IsGivenBy, Text}
use Rattle.ls_find.specs.Sought.{IsGoodFor}

-- ---- two texts have one file and one program

same_outcome : OneAnswer → (classes first second : Text) (i j : Image) → Compiles classes first i →
    Compiles classes second j → elaborated_file (checked_of i) ≡ elaborated_file (checked_of j)
same_outcome one classes first second i j is js =
    subst (λ (e : Elaborated ElaboratedFile). SameAnswer (Ok (elaborated_file (checked_of i))) e) js.elaborates
    (subst (λ (e : Elaborated ElaboratedFile). SameAnswer e (elaborated js.file)) is.elaborates
    (one classes is.file js.file is.spelled js.spelled))

same_program : OneAnswer → OneProgram → (classes text : Text) (i j : Image) → Compiles classes text i →
    Compiles classes text j → program_of i ≡ program_of j
same_program one alone classes text i j is js =
    alone (elaborated_file (checked_of j)) text (program_of i) (program_of j)
    (subst (λ (o : ElaboratedFile). IsTextOf o (program_of i) text) (same_outcome one classes text text i j is js)
    is.reads)
    js.reads

-- ---- no two threads have one name

thread_at : (ts : List ThreadProgram) (n : ℕ) → n < length ts → (t : ThreadProgram) × (slice_get ts n ≡ Some t)
thread_at [] n within = absurd (omega (arith, within))
thread_at (t ∷ ts) zero within = (t, refl)
thread_at (t ∷ ts) (suc n) within = thread_at ts n (omega (arith, within))

are_named : DoublesHaveNames → (o : ElaboratedFile) (text : Text) (u : ℕ) (p q : Program) → IsTextOf o p text →
    AreDoubles u p q → HaveNamesByPlace p q
are_named named o text u p q is doubles = record {
  same = named u p q doubles;
  apart = λ s t within inside same.
      let first = thread_at p.threads s within in
      let second = thread_at p.threads t inside in
      (program_names o text p is).once s t first.0 second.0 first.1 second.1
      (sym (ap name_in first.1) ∙ same ∙ ap name_in second.1);
}

-- ---- one text over one class text

-- the programs of these images are exchanged, whichever images a text gives
pub at_images : OneAnswer → OneProgram → DoublesAreExchanged → (u : ℕ) (classes first second : Text) (i : Image) →
    ExchangesAt u classes first second → Compiles classes first i →
    (j : Image) × Compiles classes second j × AreDoubles u (program_of i) (program_of j)
at_images one alone exchanged u classes first second i e is = (
  e.after,
  e.of_second,
  subst (λ (p : Program). AreDoubles u p (program_of e.after))
      (same_program one alone classes first e.before i e.of_first is) e.doubles,
)

-- and their files are one
pub same_files : OneAnswer → (classes first second : Text) (i j : Image) → Compiles classes first i →
    Compiles classes second j → file_of i ≡ file_of j
same_files one classes first second i j is js =
    ap (λ (o : ElaboratedFile). o.file) (same_outcome one classes first second i j is js)

-- ---- what is sound of one is of the other

-- What specifies a program, and what specifies another with two threads exchanged, are of one file, and their programs
-- are exchanged so.
pub record IsGivenLike (u : ℕ) (given other : Given) (file : File) (p q : Program) : Type 0 where
  pub file_is : given_file other file ≡ given_file given file
  pub exchanged : AreExchanged u (u + 1) (given_program given p) (given_program other q)

module _ (one : OneAnswer) (alone : OneProgram) (exchanged : DoublesAreExchanged) where
  -- what a class text that is given specifies of the second program
  other_given : (u : ℕ) (specification : Option Text) (first second : Text) (given : Given) (file : File)
      (p q : Program) →
      ExchangesIfGiven u specification first second → IsGivenBy specification first given → AreExchanged u (u + 1) p q →
      (other : Given) × IsGivenBy specification second other × IsGivenLike u given other file p q
  other_given u None first second given file p q e is x = (
    None,
    refl,
    subst (λ (g : Given). IsGivenLike u g None file p q) (sym is) (record { file_is = refl; exchanged = x }),
  )
  other_given u (Some classes) first second given file p q e is x =
      let j = at_images one alone exchanged u classes first second is.0 e is.1 in (
        Some (file_of j.0, program_of j.0),
        (j.0, j.1, refl),
        subst (λ (g : Given). IsGivenLike u g (Some (file_of j.0, program_of j.0)) file p q) (sym is.2) (record {
          file_is = same_files one classes second first j.0 is.0 j.1 is.1;
          exchanged = exchanged u (program_of is.0) (program_of j.0) j.2;
        }),
      )

pub sound_follows : OneAnswer → OneProgram → DoublesAreExchanged → DoublesHaveNames → ExchangedIsLinearizable →
    ExchangedIsLegal → ExchangedNeverWaits → ExchangedNeverTurns → SoundFollows
sound_follows one alone exchanged named linear legal waits turns sought specification classes program other u e eg
    sound =
    let k = sound.image in
    let ks = sound.compiles in
    let good = sound.good in
    let ij = at_images one alone exchanged u classes other program k e ks in
    let i = ij.0 in
    let is = ij.1 in
    let two : AreDoubles u (program_of k) (program_of i) = ij.2 in
    let at = exchanged u (program_of k) (program_of i) two in
    let names = are_named named (elaborated_file (checked_of k)) other u (program_of k) (program_of i) ks.reads two in
    let file = file_of k in
    let same : file_of k ≡ file_of i = same_files one classes other program k i ks is in
    let o = other_given one alone exchanged u specification other program sound.given file (program_of k)
    (program_of i) eg
    sound.is_given at in
    let sp = given_program sound.given (program_of k) in
    let sq = given_program o.0 (program_of i) in
    let sfile = given_file sound.given file in
    let spec : AreExchanged u (u + 1) sp sq = o.2.exchanged in
    let of_file : sfile ≡ given_file o.0 file = sym o.2.file_is in record {
      image = i;
      compiles = is;
      given = o.0;
      is_given = o.1;
      good = subst (λ (g : File). IsGoodFor sought o.0 g (program_of i)) same (record {
        ends = record {
          good = record {
            linearizable = subst (λ (f : File). AllLike f sq file (program_of i)) of_file
                (linear sfile file u (u + 1) sp sq (program_of k) (program_of i) spec at good.ends.good.linearizable);
            waits = λ looked. subst (λ (f : File). NoneWaitsForEver f sq file (program_of i)) of_file
                (waits sfile file u (u + 1) sp sq (program_of k) (program_of i) spec at (good.ends.good.waits looked));
          };
          legal = λ looked. legal file u (u + 1) (program_of k) (program_of i) at names (good.ends.legal looked);
        };
        turns = λ looked. subst (λ (f : File). NoneTurnsUnexcused f sq file (program_of i)) of_file
            (turns sfile file u (u + 1) sp sq (program_of k) (program_of i) spec at (good.turns looked));
      });
    }
