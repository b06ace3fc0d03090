use Rattle.std.proofs.Common.{ap, subst, List, ℕ}
use Rattle.reader.specs.declared.line.ReadLine.{ReadLine}
use Rattle.compiler.specs.Held.{table}
use Rattle.compiler.specs.Put.{Wrote}
use Rattle.compiler.proofs.Puts.{left_turn, left_same, left_none, head_room, line_room, read_is}
use Rattle.compiler.proofs.Rereads.{lines_got, lines_fails, lines_tail}
use Rattle.compiler.proofs.tape_writer.TapeWriter.put_lines.Goals as goal

pub put_head-requires : goal.put_head-requires
put_head-requires c =
    let o = c.in-Ok.ensures.told in
    head_room c.args.self.now c.loop-bytes.self c.loop-bytes.above o.0 c.in-Ok.read.group _ _ _ (lines_got _ _ _ o.0 _ c.in-Some.ensures.steps.0 o.1) (ap (λ (v : ReadLine). v.group) o.2) c.loop-bytes.invariant c.requires

pub put_line-requires : goal.put_line-requires
put_line-requires c =
    let o = c.in-Ok.ensures.told in
    let r = line_room c.args.self.now c.loop-bytes.self c.put_head.new.self c.loop-bytes.above o.0 c.in-Ok.read.group _ _ _ (lines_got _ _ _ o.0 _ c.in-Some.ensures.steps.0 o.1) (ap (λ (v : ReadLine). v.group) o.2) c.loop-bytes.invariant c.put_head.ensures c.requires in
    rw (read_is (table c.put_head.new.self.constants.now) c.in-Ok.read o.0 o.2) r

pub loop-bytes-preserved-in-Ok : goal.loop-bytes-preserved-in-Ok
loop-bytes-preserved-in-Ok c =
    let o = c.in-Ok.ensures.told in
    let w = subst (λ (z : List ℕ). Wrote c.put_head.new.self z c.put_line.new.self) (read_is (table c.put_head.new.self.constants.now) c.in-Ok.read o.0 o.2) c.put_line.ensures in
    left_turn c.args.self.now c.loop-bytes.self c.put_head.new.self c.put_line.new.self c.loop-bytes.above o.0 c.in-Ok.read.group _ _ _ (lines_got _ _ _ o.0 _ c.in-Some.ensures.steps.0 o.1) (ap (λ (v : ReadLine). v.group) o.2) c.loop-bytes.invariant c.put_head.ensures w

pub loop-bytes-preserved : goal.loop-bytes-preserved
loop-bytes-preserved c =
    let f = c.in_default.ensures.told in
    left_same c.args.self.now c.loop-bytes.self c.loop-bytes.above _ _ _ (lines_fails _ _ _ _ f.0 c.in-Some.ensures.steps.0 f.1) c.loop-bytes.invariant

pub returns : goal.returns
returns c = left_none c.args.self.now c.loop-bytes.self c.loop-bytes.above _ _ (lines_tail _ _ c.in-None.ensures.steps.0) c.loop-bytes.invariant
