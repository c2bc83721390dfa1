pub mod AttributeLaws
pub mod EffectLaws
