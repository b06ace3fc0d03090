use Rattle.std.proofs.Common.{◌+◌, ◌-◌, length, drop, arith}
use Rattle.std.proofs.lemmas.List.{length-drop, take_all}
use Rattle.digits.proofs.Keeping.{cut_behind, uncut_behind}
use Rattle.digits.proofs.text.behind_first.Goals as goal

pub returns-in_err-comma : goal.returns-in_err-comma
returns-in_err-comma c ns below t =
    rw c.from_residual.ensures (uncut_behind ns c.args.text.now below t c.in_err-comma.ensures)

pub returns : goal.returns
returns c ns below t =
    let text = c.args.text.now in
    let k = c.in_ok-comma.comma + 1 in
    let l = length-drop k text in
    cut_behind ns text _ c.in_ok-comma.comma below t c.in_ok-comma.ensures (take_all (length text - k) (drop k text) (omega arith))
