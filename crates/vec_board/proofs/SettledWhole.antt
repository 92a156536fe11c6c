-- A core that stands with all its pages, after settling.
use Rattle.std.proofs.Common.{◌≡◌, ◌≤◌, ℕ, List, [], ◌∷◌, ◌++◌, Result, Ok, Err, IfOk, IfErr, sym, subst, arith}
use Rattle.vec_history.specs.declared.event.Event.TheVariants as event
use Rattle.vec_history.specs.declared.event.Act.{Act}
use Rattle.vec_history.specs.Acts.{act_of}
use Rattle.vec_history.specs.Settling.{lasting_events}
use Rattle.page_bytes.specs.Content.{Content}
use Rattle.vec_steps.specs.declared.fault.StepFault.{StepFault}
use Rattle.vec_steps.specs.declared.fault.StepFault.TheVariants as fault
use Rattle.vec_steps.specs.Index.{Index, IsLegal}
use Rattle.vec_board.specs.declared.board_core.Core.{Core}
use Rattle.vec_board.specs.Standing.{acts_of}
use Rattle.vec_board.specs.Settling.{IsNoted, IsUnsettled, AreFaultsBelow}
use Rattle.vec_board.specs.Boards.{StandsWhole}
use Rattle.vec_board.proofs.SettledLaws.{settled_legal, faulted_legal, noted_stands, still_stands, below_more, below_later}
use Rattle.vec_board.proofs.ServedLaws.{counted_in}

pub settled_whole : (r : Result ℕ StepFault) (old new : Core) (pages : List Content) (before now : ℕ) (base : Index) (desk : ℕ)
    → IfOk r (λ upto. (upto ≡ lasting_events (acts_of old)) × IsNoted old new desk (event.Settled upto))
    → IfErr r (IsUnsettled old new desk before now) → before ≤ now → StandsWhole old pages before base → StandsWhole new pages now base
settled_whole (Ok upto) old new pages before now base desk ok err later s =
    let acts = acts_of old in
    let legal : IsLegal base (acts ++ act_of desk (event.Settled upto) ∷ []) =
    subst (λ n. IsLegal base (acts ++ act_of desk (event.Settled n) ∷ [])) (sym ok.0) (settled_legal base acts desk s.stands.legal) in
    record {
      stands = noted_stands old new desk (event.Settled upto) ok.1 tt pages base s.stands legal;
      faults_are = subst (λ (l : List Act). AreFaultsBelow l now) (sym ok.1.acts)
          (below_more acts desk (event.Settled upto) now (λ n is. absurd cc) (below_later acts before now later s.faults_are));
      counted = counted_in new;
    }
settled_whole (Err fault.Memory) old new pages before now base desk ok err later s = record {
  stands = still_stands old new err pages base s.stands;
  faults_are = subst (λ (l : List Act). AreFaultsBelow l now) (sym err.acts) (below_later (acts_of old) before now later s.faults_are);
  counted = counted_in new;
}
settled_whole (Err (fault.LogFull used size)) old new pages before now base desk ok err later s = absurd err
settled_whole (Err (fault.Disk count)) old new pages before now base desk ok err later s =
    let acts = acts_of old in
    let is = err.1 in
    let rose = err.2 in
    record {
      stands = noted_stands old new desk (event.DiskFaulted count) err.0 tt pages base s.stands
          (faulted_legal base acts desk before count s.stands.legal s.faults_are (omega (arith, is, rose)));
      faults_are = subst (λ (l : List Act). AreFaultsBelow l now) (sym err.0.acts)
          (below_more acts desk (event.DiskFaulted count) now (λ n same. let one : count ≡ n = cc in omega (arith, one, is))
          (below_later acts before now later s.faults_are));
      counted = counted_in new;
    }
