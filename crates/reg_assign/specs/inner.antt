pub mod AssignmentInputs
