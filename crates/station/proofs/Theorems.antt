-- What the layers above cite of this one's laws: nothing else of proofs/ is theirs but Examples.antt, for texts that compute.
-- Assumes nothing.

-- the causes: their numbers, and the first that holds
pub use Rattle.station.proofs.Refusal.{number_small, number_some, first_none, first_of_none, first_some, append_none, append_some, append_left_none, passed, last_cause, cause_last, Never, end, skip, never_first}
-- the lines of a text
pub use Rattle.station.proofs.Text.{lines_join}
pub use Rattle.station.proofs.lines.FirstLine.{line_front, lines_first, line_some, line_within, lines_at, lines_past}
-- the forms: a line that has one is the form printed
pub use Rattle.station.proofs.Form.{form_had}
pub use Rattle.station.proofs.heads.LineLoop.{lines_few}
-- decimals
pub use Rattle.station.proofs.Decimal.{digits_length}
-- a head record that some text yields
pub use Rattle.station.proofs.ValidHead.{within_low, within_high, of_within, valid_of, of_valid}
-- reading and writing a head: the papers' meaning, and both ways
pub use Rattle.station.proofs.Reading.{read_means, means_head_of}
pub use Rattle.station.proofs.Writing.{read_valid, read_written, read_lines}
pub use Rattle.station.proofs.WrittenRead.{written_read, yielded}
-- what a reading of a head by value tells
pub use Rattle.station.proofs.heads.LineLoop.{ReadAccepted, ReadRefused, read_accepted, read_refused, head_back}
pub use Rattle.station.proofs.heads.OneLine.{records_back}
-- rows in place of a head's busy lines: their texts, the paper's meaning, what is told of a reading, writing, and both ways
pub use Rattle.station.proofs.rows.RowText.{row_self, row_had, row_line}
pub use Rattle.station.proofs.rows.RowsMeaning.{rows_mean, mean_rows, Told, rows_told, rows_rest, rows_valid, rows_cells, rows_one, rows_round, rows_again}
pub use Rattle.station.proofs.rows.RowsWritten.{rows_in, rows_ordered, rows_fit}
pub use Rattle.station.proofs.rows.RowsUnique.{rows_canonical}
-- preset records, in a list and by value
pub use Rattle.station.proofs.CodeRecords.{records_step, refusal_of_lem}
pub use Rattle.station.proofs.CopiedRecords.{saved_loaded, saved_over, loaded_whole}
-- the first 32 records of a list, as an entry takes them
pub use Rattle.station.proofs.entries.FirstRecords.{few_records, first_records}
pub use Rattle.station.proofs.entries.ListOfRecords.{head_list}
-- a head that no cause refuses to write
pub use Rattle.station.proofs.write.HeadLines.{cause_none}
-- bytes that are written one run after the other
pub use Rattle.station.proofs.output.Runs.{wrote_none, wrote_then, wrote_fits, left_all, left_wrote, left_none, left_then, writes_none, writes_then, rest_all, rest_wrote, rest_none, rest_then, writes_out, join_append}
