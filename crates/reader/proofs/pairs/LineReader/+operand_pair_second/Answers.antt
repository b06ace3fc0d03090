use Rattle.std.proofs.Common.{refl, append-nil, rules}
use Rattle.rules.specs.declared.formula.Atom.TheVariants.{Variable, Pointed, Letter, Constant}
use Rattle.rules.specs.Tree.{atom}
use Rattle.reader.proofs.Emits.{adds, second_is}
use Rattle.reader.proofs.Operands.{none_fails, opens_none, opens_fails, opens_unclosed, opens, variable_is, letter_is, points, points_fails, constant_is, constant_fails, other_fails}
use Rattle.reader.proofs.pairs.LineReader.+operand_pair_second.Goals as goal

-- Each way out of `operand` is one case of the definition: the first byte's start picks the case, and what the calls answered fills it in.
-- Each operand leaves one of its bytes over, and an operation takes four: a pair in parentheses has the two parentheses, the sign and the byte that each operand leaves, so again one is over. So four times the operations that are held and the bytes that are left never grow past what a line of 80 bytes begins with, and there is room.

pub operand-returns-in_default-clause-reads : goal.operand-returns-in_default-clause-reads
operand-returns-in_default-clause-reads t c = search (rules, none_fails)

pub operand-returns-in_default-inside-clause-reads : goal.operand-returns-in_default-inside-clause-reads
operand-returns-in_default-inside-clause-reads t c = search (rules, opens_none)

pub operand-returns-in_err-pair-in-Parenthesis-clause-reads : goal.operand-returns-in_err-pair-in-Parenthesis-clause-reads
operand-returns-in_err-pair-in-Parenthesis-clause-reads t c = search (rules, opens_fails)

pub operand-returns-in_err-byte-in-Parenthesis-clause-reads : goal.operand-returns-in_err-byte-in-Parenthesis-clause-reads
operand-returns-in_err-byte-in-Parenthesis-clause-reads t c = search (rules, opens_unclosed)

pub operand-returns-in_err-letter-in-Pointer-clause-reads : goal.operand-returns-in_err-letter-in-Pointer-clause-reads
operand-returns-in_err-letter-in-Pointer-clause-reads t c = search (rules, points_fails)

pub operand-returns-in_err-constant-in-Digit-clause-reads : goal.operand-returns-in_err-constant-in-Digit-clause-reads
operand-returns-in_err-constant-in-Digit-clause-reads t c = search (rules, constant_fails)

pub operand-returns-in_ok-byte-in-Parenthesis-clause-reads : goal.operand-returns-in_ok-byte-in-Parenthesis-clause-reads
operand-returns-in_ok-byte-in-Parenthesis-clause-reads t c = search (rules, opens)

pub operand-returns-in_ok-letter-in-Variable-clause-reads : goal.operand-returns-in_ok-letter-in-Variable-clause-reads
operand-returns-in_ok-letter-in-Variable-clause-reads t c = (atom (Variable _), search (rules, variable_is), refl, search (rules, append-nil))

pub operand-returns-in_ok-letter-in-Pointer-clause-reads : goal.operand-returns-in_ok-letter-in-Pointer-clause-reads
operand-returns-in_ok-letter-in-Pointer-clause-reads t c = (atom (Pointed _), search (rules, points), refl, search (rules, append-nil))

pub operand-returns-in_ok-letter-in-Letter-clause-reads : goal.operand-returns-in_ok-letter-in-Letter-clause-reads
operand-returns-in_ok-letter-in-Letter-clause-reads t c = (atom (Letter _), search (rules, letter_is), refl, search (rules, append-nil))

pub operand-returns-in_ok-constant-in-Digit-clause-reads : goal.operand-returns-in_ok-constant-in-Digit-clause-reads
operand-returns-in_ok-constant-in-Digit-clause-reads t c = (atom (Constant _), search (rules, constant_is), refl, search (rules, append-nil))

pub operand-returns-in-Other-clause-reads : goal.operand-returns-in-Other-clause-reads
operand-returns-in-Other-clause-reads t c = search (rules, other_fails)

pub second-returns-clause-reads : goal.second-returns-clause-reads
second-returns-clause-reads t c =
    let s = c.in_ok-sign.ensures in
    let r = c.in_ok-right.ensures.reads in (
      (c.in_ok-sign.sign, r.0),
      second_is c.args.depth.room c.after.result.room c.args.self.now.cursor.rest.now c.sign.new.self.rest.now c.operand.new.self.cursor.rest.now c.in_ok-sign.sign r.0 s.0 c.after.ensures.room r.1,
      adds c.args.self.now.operations.items c.operand.new.self.operations.items c.push.new.self.items c.args.left c.in_ok-right.right r.0 c.in_ok-sign.sign c.args.depth.waiting c.after.result.waiting r.3 c.push.ensures.items r.2 c.after.ensures.waiting,
    )
