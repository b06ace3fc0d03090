-- The accepted texts are those that write a well-formed program.
use Rattle.std.proofs.Common.{◌≡◌, ℕ, ◌≤◌, Bool, true, false, cond, leb, List, [], length, Some, None, Decides, Option, sym, refl, ap, ◌∙◌, subst, arith}
use Rattle.std.specs.List.{AllByRecursion}
use Rattle.std.proofs.lemmas.Bool.{le-leb, leb-true}
use Rattle.rules.specs.declared.refusal.Report.{Report}
use Rattle.rules.specs.Refusals.{report}
use Rattle.rules.specs.Tree.{Program}
use Rattle.rules.specs.Written.{written_text}
use Rattle.rules.specs.Texts.{cut, has, Parsed, program, refused, parsed, text_limit}
use Rattle.rules.specs.Mentions.{program_mentions, first_loose, first_past, constants_of}
use Rattle.rules.specs.Operations.{instructions, instruction_limit, first_over}
use Rattle.rules.specs.Words.{tape_of}
use Rattle.rules.specs.Compiled.{Outcome, tape, refuse, unless, judged, on_parsed, compiled}
use Rattle.rules.specs.Programs.{GoodLine, Group, group_lines, letters, In, WellFormed}
use Rattle.laws.specs.Accepted.{WrittenAccepted, AcceptedWritten, TextReads, ReadWrites, OneProgram}
use Rattle.laws.proofs.Groups.{Follows, groups_ruled, ruled_groups}
use Rattle.laws.proofs.Limits.{letters_told, loose_none, none-loose, past_none, none_past, over_none, none_over}
use Rattle.laws.proofs.Cutting.{uncut_cut}
use Rattle.laws.proofs.Parsing.{Short, same_program, parses, shows}

pub text_reads : TextReads
text_reads ks w = parses ks [] w.good w.short (groups_ruled ks w)

pub one_program : OneProgram
one_program ks ls v w e = same_program (sym (text_reads ks v) ∙ (ap parsed e ∙ text_reads ls w))

-- what the reading of a text shows of its program
pub record Ruled (text : List ℕ) (ks : Program) : Type 0 where
  pub good : AllByRecursion GoodLine ks
  pub short : AllByRecursion Short ks
  pub follows : Follows [] ks
  pub writes : text ≡ written_text ks

ruled : (text : List ℕ) (ks : Program) → parsed text ≡ program ks → Ruled text ks
ruled text ks e =
    let s = shows (cut text) [] ks e in
    let q : s.lines ≡ ks = sym s.whole in
    record { good = subst (AllByRecursion GoodLine) q s.good; short = subst (AllByRecursion Short) q s.short; follows = subst (Follows []) q s.follows; writes = sym (uncut_cut text) ∙ (s.text ∙ ap written_text q) }

pub read_writes : ReadWrites
read_writes text ks e = (ruled text ks e).writes

-- a line's group is there just where its letter is one of the groups'
told : (ks : Program) (gs : List Group) → ks ≡ group_lines gs → (x : ℕ) → Decides (has ks x) (In x (letters gs))
told ks gs e x = subst (λ (o : Program). Decides (has o x) (In x (letters gs))) (sym e) (letters_told gs x)

passes : (ks : Program) → first_loose ks (program_mentions 1 ks) ≡ None → first_past (program_mentions 1 ks) [] ≡ None → first_over 0 1 ks ≡ None → judged ks ≡ tape (tape_of (constants_of ks) ks)
passes ks a b c = rw (a, b, c)

well_judged : (ks : Program) → WellFormed ks → judged ks ≡ tape (tape_of (constants_of ks) ks)
well_judged ks w = passes ks (loose_none ks (letters w.groups) (told ks w.groups w.lines) (program_mentions 1 ks) w.grouped) (past_none (program_mentions 1 ks) [] w.constants) (over_none ks 0 1 (omega (arith, w.few)))

pub written_accepted : WrittenAccepted
unfolding compiled
written_accepted ks w = rw (le-leb (length (written_text ks)) text_limit w.brief) (ap on_parsed (text_reads ks w) ∙ well_judged ks w)

unless_none : (o : Option Report) (x : Outcome) (ws : List ℕ) → unless o x ≡ tape ws → (o ≡ None) × (x ≡ tape ws)
unless_none None x ws e = (refl, e)
unless_none (Some r) x ws e = let z : ◌≡◌ {A = ℕ} 0 1 = cc in absurd (omega arith)

same_tape : {vs ws : List ℕ} → tape vs ≡ tape ws → vs ≡ ws
same_tape e = cc

-- A judgement that finds fault ends in a refusal, so on the way to a tape each found none, and each limit holds.
-- The tape is the one that is given after the last of them.
judged_well : (text : List ℕ) (ks : Program) (ws : List ℕ) → length text ≤ text_limit → Ruled text ks → judged ks ≡ tape ws → WellFormed ks × (ws ≡ tape_of (constants_of ks) ks)
judged_well text ks ws h r e =
    let a = unless_none (first_loose ks (program_mentions 1 ks)) (unless (first_past (program_mentions 1 ks) []) (unless (first_over 0 1 ks) (tape (tape_of (constants_of ks) ks)))) ws e in
    let b = unless_none (first_past (program_mentions 1 ks) []) (unless (first_over 0 1 ks) (tape (tape_of (constants_of ks) ks))) ws a.1 in
    let c = unless_none (first_over 0 1 ks) (tape (tape_of (constants_of ks) ks)) ws b.1 in
    let g = ruled_groups ks r.follows in
    let n : instructions ks ≤ instruction_limit = omega (arith, none_over ks 0 1 (omega arith) c.0) in
    (record { groups = g.groups; lines = g.lines; more = g.more; first_a = g.first_a; distinct = g.distinct; inner = g.inner; good = r.good; short = r.short; grouped = none-loose ks (letters g.groups) (told ks g.groups g.lines) (program_mentions 1 ks) a.0; constants = none_past (program_mentions 1 ks) [] (omega arith) b.0; few = n; brief = subst (λ (o : List ℕ). length o ≤ text_limit) r.writes h }, sym (same_tape c.1))

pub accepted_written : AcceptedWritten
unfolding compiled
accepted_written text ws e = by (leb (length text) text_limit) (parsed text) refl refl e
  where
    by : (b : Bool) (p : Parsed) → leb (length text) text_limit ≡ b → parsed text ≡ p → cond b (on_parsed p) (refuse (report 1 0 0)) ≡ tape ws → (ks : Program) × WellFormed ks × (text ≡ written_text ks) × (ws ≡ tape_of (constants_of ks) ks)
    by true (program ks) h q f =
        let r = ruled text ks q in
        let w = judged_well text ks ws (leb-true (length text) text_limit h) r f in
        (ks, w.0, r.writes, w.1)
    by true (refused r) h q f = let z : ◌≡◌ {A = ℕ} 0 1 = cc in absurd (omega arith)
    by false p h q f = let z : ◌≡◌ {A = ℕ} 0 1 = cc in absurd (omega arith)
