-- Value change dumps: what a task's state and a wire were last written with, kept as one of a few.
use Rattle.std.specs.Prelude.{Bool, true, false, ◌≡◌, Option, Some, None}
use Rattle.std.proofs.Common.{refl}
use Rattle.osek_base.specs.declared.status.TaskState.{TaskState}
use Rattle.view_dumps.specs.declared.last_flag.FlagCode.{FlagCode}
use Rattle.view_dumps.specs.declared.last_state.StateCode.{StateCode}

abbrev pub kept_state : StateCode → Option TaskState
kept_state StateCode.Running = Some TaskState.Running
kept_state StateCode.Waiting = Some TaskState.Waiting
kept_state StateCode.Ready = Some TaskState.Ready
kept_state StateCode.Suspended = Some TaskState.Suspended
kept_state StateCode.Nothing = None

-- as what a state is kept
abbrev pub state_code : TaskState → StateCode
state_code TaskState.Running = StateCode.Running
state_code TaskState.Waiting = StateCode.Waiting
state_code TaskState.Ready = StateCode.Ready
state_code TaskState.Suspended = StateCode.Suspended

abbrev pub state_kept : Option TaskState → StateCode
state_kept None = StateCode.Nothing
state_kept (Some state) = state_code state

pub state_again : (code : StateCode) → state_kept (kept_state code) ≡ code
state_again StateCode.Running = refl
state_again StateCode.Waiting = refl
state_again StateCode.Ready = refl
state_again StateCode.Suspended = refl
state_again StateCode.Nothing = refl

-- the same of a wire
abbrev pub kept_flag : FlagCode → Option Bool
kept_flag FlagCode.Low = Some false
kept_flag FlagCode.High = Some true
kept_flag FlagCode.Nothing = None

abbrev pub flag_code : Bool → FlagCode
flag_code true = FlagCode.High
flag_code false = FlagCode.Low

abbrev pub flag_kept : Option Bool → FlagCode
flag_kept None = FlagCode.Nothing
flag_kept (Some is_high) = flag_code is_high

pub flag_again : (code : FlagCode) → flag_kept (kept_flag code) ≡ code
flag_again FlagCode.Low = refl
flag_again FlagCode.High = refl
flag_again FlagCode.Nothing = refl
