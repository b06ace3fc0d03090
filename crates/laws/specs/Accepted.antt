-- Which texts are accepted: those that write a well-formed program, and no others.
use Rattle.std.specs.Prelude.{◌≡◌, ℕ, List}
use Rattle.rules.specs.Tree.{Program}
use Rattle.rules.specs.Written.{written_text}
use Rattle.rules.specs.Texts.{program, parsed}
use Rattle.rules.specs.Mentions.{constants_of}
use Rattle.rules.specs.Words.{tape_of}
use Rattle.rules.specs.Compiled.{compiled, tape}
use Rattle.rules.specs.Programs.{WellFormed}

-- every well-formed program, as it is written, compiles to its tape
abbrev pub WrittenAccepted : Type 0
WrittenAccepted = (ks : Program) → WellFormed ks → compiled (written_text ks) ≡ tape (tape_of (constants_of ks) ks)

-- a text that compiles to a tape writes a well-formed program, and the tape is that program's
abbrev pub AcceptedWritten : Type 0
AcceptedWritten = (text ws : List ℕ) → compiled text ≡ tape ws → (ks : Program) × WellFormed ks × (text ≡ written_text ks) × (ws ≡ tape_of (constants_of ks) ks)

-- the lines of a written program are read as that program
abbrev pub TextReads : Type 0
TextReads = (ks : Program) → WellFormed ks → parsed (written_text ks) ≡ program ks

-- a text that is read is the one that writes what it was read as
abbrev pub ReadWrites : Type 0
ReadWrites = (text : List ℕ) (ks : Program) → parsed text ≡ program ks → text ≡ written_text ks

-- a text means one program
abbrev pub OneProgram : Type 0
OneProgram = (ks ls : Program) → WellFormed ks → WellFormed ls → written_text ks ≡ written_text ls → ks ≡ ls
