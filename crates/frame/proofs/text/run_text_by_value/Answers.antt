-- `text::run_text_by_value` meets its contract: a law for each answer, and the claim by
-- `text_claim`. Assumes nothing.
use Rattle.std.proofs.lemmas.Result.{err_from_is_err_and}
use Rattle.station.specs.declared.types.Refusal.TheVariants.{TooShort, TextTooLong}
use Rattle.station.specs.ReadHead.{left_by}
use Rattle.station.proofs.Theorems.{read_accepted, read_refused}
use Rattle.frame.proofs.text.WholeText.{beside_long, short_start, text_claim, leaves_at_start, run_unread, head_start, run_accepted}
use Rattle.frame.proofs.text.run_text_by_value.Goals as goal

pub returns-then-text-gt-MOST_BYTES : goal.returns-then-text-gt-MOST_BYTES
returns-then-text-gt-MOST_BYTES c = let a = c.args in
    let long = beside_long a.text.now a.table.now a.out.now c.if-text-gt-MOST_BYTES.true in record {
      done = leaves_at_start a.head.now a.presets.now a.table.now a.moment.now.clock a.moment.now.hold a.out.now TextTooLong long c.into.ensures;
      claim = text_claim a.text.now a.table.now a.out.now;
    }

pub returns-then-out-lt-LEAST_OUTPUT : goal.returns-then-out-lt-LEAST_OUTPUT
returns-then-out-lt-LEAST_OUTPUT c = let a = c.args in
    let short = short_start a.text.now a.table.now a.out.now c.if-text-gt-MOST_BYTES.false c.then-out-lt-LEAST_OUTPUT.either in record {
      done = leaves_at_start a.head.now a.presets.now a.table.now a.moment.now.clock a.moment.now.hold a.out.now TooShort short c.into-then-out-lt-LEAST_OUTPUT.ensures;
      claim = text_claim a.text.now a.table.now a.out.now;
    }

pub returns-in_err-read : goal.returns-in_err-read
returns-in_err-read c = let a = c.args in
    let b = c.read_head_by_value in
    let f = c.in_err-read.field-0.0 in
    let p = err_from_is_err_and c.from_residual.result c.from_residual.ensures.1 in
    let x = read_refused a.text.now a.head.now a.presets.now (left_by b.result b.new.head b.new.presets) f.line f.cause b.ensures c.in_err-read.was in record {
      done = rw (p.1, p.2) (run_unread x c.if-text-gt-MOST_BYTES.false c.if-table-lt-LEAST_CELLS.false c.if-out-lt-LEAST_OUTPUT.false);
      claim = text_claim a.text.now a.table.now a.out.now;
    }

pub run_head-requires : goal.run_head-requires
run_head-requires c = let a = c.args in
    let b = c.read_head_by_value in
    let e = c.in_ok-read.read in
    head_start (read_accepted a.text.now a.head.now a.presets.now (left_by b.result b.new.head b.new.presets) e.lines e.bytes b.ensures c.in_ok-read.was) c.if-table-lt-LEAST_CELLS.false

pub returns : goal.returns
returns c = let a = c.args in
    let b = c.read_head_by_value in
    let e = c.in_ok-read.read in
    let x = read_accepted a.text.now a.head.now a.presets.now (left_by b.result b.new.head b.new.presets) e.lines e.bytes b.ensures c.in_ok-read.was in record {
      done = run_accepted a.head.now x c.if-table-lt-LEAST_CELLS.false c.if-out-lt-LEAST_OUTPUT.false c.run_head.ensures;
      claim = text_claim a.text.now a.table.now a.out.now;
    }
