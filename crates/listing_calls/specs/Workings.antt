-- The jobs that checked listings and pages do. No answer's definition names anything here, so a reader need not believe it.
pub mod Jobs
