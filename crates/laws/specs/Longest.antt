-- No tape is longer than 491 words: 46 constants at two words, 26 heads, 372 instructions, the end word.
use Rattle.std.specs.Prelude.{◌≡◌, ℕ, ◌≤◌, List, length}
use Rattle.rules.specs.Compiled.{compiled, tape}

abbrev pub LongestTape : Type 0
LongestTape = (text ws : List ℕ) → compiled text ≡ tape ws → length ws ≤ 491
