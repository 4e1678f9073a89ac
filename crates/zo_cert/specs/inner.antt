pub mod ReportLine
pub mod ReportPart
