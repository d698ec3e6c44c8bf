-- What the layer above cites of this one's laws: nothing else of proofs/ is its own but Examples.antt and SupplyExamples.antt, for frames that compute.
-- Assumes nothing.

-- the claims about plan and call
pub use Rattle.placing.proofs.ClaimsHold.{plan_granted, plan_claim, plan_only_five, nine_counts_all, call_accepted, call_claim_lem}
-- the room for r
pub use Rattle.placing.proofs.ByCapacity.{plan_by_capacity, call_by_capacity}
-- one motor for each lost cell; where the supply feeds every bridge, all is as it was without it
pub use Rattle.placing.proofs.FreeNumber.{freed_number}
pub use Rattle.placing.proofs.AsUncapped.{no_line_uncapped, plan_uncapped_lem, called_call, cost_call, state_call, sound_call, frame_causes_lem, call_causes_lem, call_uncapped_lem}
pub use Rattle.placing.proofs.AsUncapped.{fed_uncapped, plan_eight, frame_eight, causes_eight, cost_eight, state_eight}
-- the causes of a running frame and of a call
pub use Rattle.placing.proofs.WellFormedFrame.{clock_to, clock_is, clock_late, usable_later}
pub use Rattle.placing.proofs.Causes.{met, of_running, jobs_inside}
pub use Rattle.placing.proofs.check.FrameCauses.{causes_none, eleven, same_frame, frame_known, frame_running, running_frame}
pub use Rattle.placing.proofs.counts.causes.CallCauses.{call_jobs_lem}
-- the counts where the clock moves
pub use Rattle.placing.proofs.counts.LeftByEvent.{counts_passed}
-- what a call keeps and makes
pub use Rattle.placing.proofs.CalledTable.{change_gone, changed_keeps_fixed, changed_kept_fixed, changed_optional, changed_optional_count, changed_call, changed_new_call}
pub use Rattle.placing.proofs.NewJobs.{Good, has_job_of, new_usable}
-- the grants
pub use Rattle.placing.proofs.PlanTheorem.{grants_rule}
-- cells, and head records
pub use Rattle.placing.proofs.CountedCells.{cells_pos, cells_ext}
pub use Rattle.placing.proofs.WrittenTable.{cell_written}
pub use Rattle.placing.proofs.HeadRecord.{frame_le, record_valid}
pub use Rattle.placing.proofs.limits.Within.{in_limits}
