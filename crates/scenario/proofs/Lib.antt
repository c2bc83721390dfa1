pub mod TableSteps
pub mod AskSteps
pub mod ScenarioSteps
pub mod FaultSteps
