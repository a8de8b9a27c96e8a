pub mod AdmittedVerdicts
pub mod OneAdmitted
