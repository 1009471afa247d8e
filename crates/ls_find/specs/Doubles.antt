-- What is found of a program that is another with two threads exchanged.
use Rattle.std.specs.Prelude.{ℕ, Option, Some, None}
use Rattle.ls_find.specs.Found.{IsSound, Text}
use Rattle.ls_find.specs.declared.sought.Sought.{Sought}
use Rattle.ls_image.specs.Images.{Compiles}
use Rattle.ls_image.specs.declared.image.Image.{Image}
use Rattle.ls_exchanged.specs.Doubles.{AreDoubles}
use Rattle.ls_translation.specs.Texts.{program_of}

-- The class text compiles with both programs, and there the second is the first with the threads of this number and the
-- next exchanged.
pub record ExchangesAt (u : ℕ) (classes first second : Text) : Type 0 where
  pub before : Image
  pub of_first : Compiles classes first before
  pub after : Image
  pub of_second : Compiles classes second after
  pub doubles : AreDoubles u (program_of before) (program_of after)

-- so it is of a class text that is given
abbrev pub ExchangesIfGiven : ℕ → Option Text → Text → Text → Type 0
ExchangesIfGiven u None first second = Unit {0}
ExchangesIfGiven u (Some specification) first second = ExchangesAt u specification first second

-- If a program is another with two threads exchanged, by the class text and by what specifies it, it is sound if that
-- one is.
abbrev pub SoundFollows : Type 0
SoundFollows =
    (sought : Sought) (specification : Option Text) (classes program other : Text) (u : ℕ) →
    ExchangesAt u classes other program → ExchangesIfGiven u specification other program →
    IsSound sought specification classes other → IsSound sought specification classes program
