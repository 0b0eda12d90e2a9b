mod StoredFiles
mod FailedCalls
