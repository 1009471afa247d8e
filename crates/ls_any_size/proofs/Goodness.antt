-- Calm programs are good for what is looked for; and what a checked file says, it says of each program of its text.
use Rattle.std.proofs.Common.{◌≡◌, ◌∙◌, ℕ, Bool, true, false, List, [], ◌++◌, Option, None, Some, Result, Ok, Err}
use Rattle.std.proofs.Common.{IfOk, IfSome}
use Rattle.std.proofs.Common.{Global, string_bytes, ap, append_assoc, subst, sym}
use Rattle.std.specs.Prelude.{String}
use Rattle.std.specs.declared.alloc.AllocError.{AllocError}
use Rattle.ls_checked.specs.CheckedTree.{File}
use Rattle.ls_endless_calls.specs.Laws.{NoWaitNoneForEver}
use Rattle.ls_explore_reports.specs.ImageNames.{names_in}
use Rattle.ls_types_places.specs.Laws.{OneAnswer, SameAnswer}
use Rattle.ls_find.specs.declared.sought.Sought.{Sought}
use Rattle.ls_guarded.proofs.Calm.{calm}
use Rattle.ls_guarded.specs.Guards.{IsKeptBy}
use Rattle.ls_image.specs.Images.{Compiles, checked_of}
use Rattle.ls_image.specs.declared.image.Image.{Image}
use Rattle.ls_loopless.specs.Loops.{HasNoLoops, LooplessTurnExcused}
use Rattle.ls_report.specs.Events.{Text}
use Rattle.ls_translation.specs.Texts.{file_of, program_of}
use Rattle.ls_types_checked.specs.CheckedFile.{elaborated_file}
use Rattle.ls_types_elaboration.specs.Elaborated.{Elaborated}
use Rattle.ls_types_elaboration.specs.Elaboration.{ElaboratedFile, elaborated}
use Rattle.ls_any_size.specs.Alone.{AreMadeOf, IsAlone, OfAnySize, RunsAlone}
use Rattle.ls_any_size.specs.Laws.{CalmIsGood}

not_both : (b : Bool) → b ≡ false → b ≡ true → ⊥
not_both b e f = apart (sym e ∙ f)
  where
    apart : false ≡ true → ⊥
    apart h = cc

-- a calm program is good for what is looked for
pub calm_good : NoWaitNoneForEver → LooplessTurnExcused → CalmIsGood
calm_good wait ends sought file program loops set x = record {
  ends = record {
    good = record { linearizable = x.linearizable; waits = λ e. wait file program file program x.waits };
    legal = λ e. absurd (not_both sought.set set e);
  };
  turns = λ e. ends file program file program (loops e);
}

-- two programs of one text have one file
same_file : OneAnswer → (classes first second : Text) (i j : Image) → Compiles classes first i →
    Compiles classes second j → file_of i ≡ file_of j
same_file one classes first second i j is js = ap (λ (o : ElaboratedFile). o.file)
    (subst (λ (e : Elaborated ElaboratedFile). SameAnswer (Ok (elaborated_file (checked_of i))) e) js.elaborates
    (subst (λ (e : Elaborated ElaboratedFile). SameAnswer e (elaborated js.file)) is.elaborates
    (one classes is.file js.file is.spelled js.spelled)))

-- what is said of the file of one program holds of each
pub runs_alone : OneAnswer → CalmIsGood → (sought : Sought) (classes making : Text) (calls : List Text) (first : Text)
    (image : Image) (class : ℕ) (methods : List ℕ) (said : Text) → Compiles classes first image →
    AreMadeOf classes making class methods calls → IsAlone sought (file_of image) (names_in image) class methods said →
    RunsAlone sought classes making calls said
runs_alone one good sought classes making calls first image class methods said compiles made x = record {
  class = class;
  methods = methods;
  made = made;
  guard = x.guard;
  some = x.some;
  kept = keeps;
  calm = λ program i is on. calm x.guard (file_of i) (program_of i) x.some (keeps program i is on);
  good = λ program i is on. good sought (file_of i) (program_of i)
      (λ e. subst HasNoLoops (same program i is) (x.loops e)) x.set
      (calm x.guard (file_of i) (program_of i) x.some (keeps program i is on));
  first = first;
  image = image;
  compiles = compiles;
  is = x.is;
}
  where
    same : (program : Text) (i : Image) → Compiles classes program i → file_of image ≡ file_of i
    same program i is = same_file one classes first program image i compiles is

    keeps : OfAnySize (IsKeptBy x.guard) classes class methods
    keeps program i is on = subst (λ (f : File). IsKeptBy x.guard f (program_of i)) (same program i is)
        (x.guards (program_of i) on)

-- and of each text that is told
pub if_alone : OneAnswer → CalmIsGood → (sought : Sought) (classes making : Text) (calls : List Text) (first : Text)
    (image : Image) (class : ℕ) (methods : List ℕ) (told : Result (Option (String Global)) AllocError) →
    Compiles classes first image → AreMadeOf classes making class methods calls →
    IfOk told (λ some. IfSome some (λ text.
    IsAlone sought (file_of image) (names_in image) class methods (string_bytes text))) →
    IfOk told (λ some. IfSome some (λ text. RunsAlone sought classes making calls (string_bytes text)))
if_alone one good sought classes making calls first image class methods (Ok (Some text)) compiles made x =
    runs_alone one good sought classes making calls first image class methods (string_bytes text) compiles made x
if_alone one good sought classes making calls first image class methods (Ok None) compiles made x = tt
if_alone one good sought classes making calls first image class methods (Err e) compiles made x = tt

-- a text of four parts, as it grows
pub of_parts : (a n r g b c d e f : List ℕ) → b ≡ [] → c ≡ b ++ a → d ≡ c ++ n → e ≡ d ++ r → f ≡ e ++ g →
    f ≡ a ++ (n ++ (r ++ g))
of_parts a n r g b c d e f first second third fourth fifth =
    fifth ∙ ap (λ l. l ++ g) (fourth ∙ ap (λ l. l ++ r) (third ∙ ap (λ l. l ++ n) (second ∙ ap (λ l. l ++ a) first)))
    ∙ append_assoc (a ++ n) r g ∙ append_assoc a n (r ++ g)
