pub mod MemberTexts
pub mod Verdicts
