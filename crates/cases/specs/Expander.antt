-- What the private steps of `expanded` are held to.
use Rattle.std.specs.Prelude.{ℕ, List, ◌++◌}
use Rattle.cases.specs.Cases.{expansion_in, after_tilde, after_digit, after_brace, after_colon}
use Rattle.cases.specs.declared.digits.Width.{Width}
use Rattle.cases.specs.declared.digits.Width.TheVariants.{Bits32, Bits64}
use Rattle.cases.specs.declared.expander.Expander.{Expander}
use Rattle.cases.specs.declared.expander.Mode.{Mode}
use Rattle.cases.specs.declared.expander.Mode.TheVariants.{Outside, Tilde, Digit, Brace, Colon}

-- how many bits a number has
abbrev pub bits_of : Width → ℕ
bits_of Bits32 = 32
bits_of Bits64 = 64

-- what the bytes to come stand for where the next stands in this mode, after this part of a repeated text
abbrev pub left_at : ℕ → Mode → List ℕ → List ℕ → List ℕ
left_at bits Outside text s = expansion_in bits s
left_at bits Tilde text s = after_tilde bits s
left_at bits (Digit high) text s = after_digit bits high s
left_at bits (Brace n) text s = after_brace bits n s
left_at bits (Colon n) text s = after_colon bits n text s

-- what all stands for, once these bytes came
abbrev pub complete : Expander → List ℕ → List ℕ
complete e s = e.bytes.items ++ left_at (bits_of e.width) e.mode e.repeated.items s
